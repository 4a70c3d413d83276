-- A call and a refusal, row by row: in which row their marks come.
use Rattle.std.specs.Prelude.{◌≡◌, ℕ, List, [], ◌∷◌, ◌++◌, length, take}
use Rattle.xb_model.specs.declared.plan.Plan.TheVariants.{Seven}
use Rattle.xb_model.specs.declared.mark.Mark.{Mark}
use Rattle.xb_model.specs.declared.on.On.{On}
use Rattle.xb_model.specs.declared.reason.Reason.TheVariants.{TimedOut}
use Rattle.xb_model.specs.LawfulLimits.{standard_limits}
use Rattle.xb_model.specs.Records.{Run, make}
use Rattle.xb_model.specs.WorkedRows.{close, pulses, dials, rows_on, three_routes, keyed_seven, refused}
use Rattle.xb_model.specs.OnLines.{on_line}
use Rattle.xb_routes.specs.Table.{Table}
use Rattle.xb_serial.specs.Office.{marks_of_rows}

-- the usual table
abbrev pub usual : Table
usual = record { routes = three_routes; plan = Seven; limits = standard_limits }

-- the marks that these makes and breaks of line 7 have made certain
abbrev pub marks_after : List Run → List (On Mark)
marks_after runs = marks_of_rows usual (rows_on 7 runs)

-- 234 5678, and 179 ms of the make after the last digit
abbrev pub nearly_dialled : List Run
nearly_dialled = make 500 ∷ dials (2 ∷ 3 ∷ 4 ∷ 5 ∷ 6 ∷ 7 ∷ []) ++ pulses 8 179

-- the row that reaches the last digit's pause of 180 ms, the 72nd, gives the nine marks of the number: no
-- row before it gives any, and neither does a row after it, nor the close
pub record KeyedInTheRowOfItsPause : Type 0 where
  pub rows : length nearly_dialled ≡ 71
  pub before : (n : ℕ) → marks_of_rows usual (take n (rows_on 7 nearly_dialled)) ≡ []
  pub reached : marks_after (nearly_dialled ++ make 1 ∷ []) ≡ on_line 7 keyed_seven
  pub nine : length keyed_seven ≡ 9
  pub later : marks_after (nearly_dialled ++ make 1 ∷ make 86400000 ∷ close ∷ [])
      ≡ on_line 7 keyed_seven

-- a line that was seized and does not dial is refused in the row that reaches the time-out of 20 s, and
-- not before
pub record RefusedInTheRowOfTheTimeOut : Type 0 where
  pub before : marks_after (make 500 ∷ make 19499 ∷ []) ≡ []
  pub reached : marks_after (make 500 ∷ make 19499 ∷ make 1 ∷ []) ≡ on_line 7 (refused TimedOut 0)
  pub later : marks_after (make 500 ∷ make 19499 ∷ make 1 ∷ make 20000 ∷ close ∷ [])
      ≡ on_line 7 (refused TimedOut 0)
