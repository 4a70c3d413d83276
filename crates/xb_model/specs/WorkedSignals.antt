-- The signals of some records, each closed by a close row, by the standard limits.
use Rattle.std.specs.Prelude.{◌≡◌, List, [], ◌∷◌, ◌++◌, false, true}
use Rattle.xb_model.specs.declared.signal.Signal.{Signal}
use Rattle.xb_model.specs.declared.signal.Signal.TheVariants.{Seize, Digit, TimeOut, Release, Close}
use Rattle.xb_model.specs.LawfulLimits.{standard_limits}
use Rattle.xb_model.specs.Records.{Run, make, break, record_of}
use Rattle.xb_model.specs.Signals.{signals_of}
use Rattle.xb_model.specs.WorkedRows.{close, pulses, dial, rows_on}

-- the record of a line gives these signals
abbrev pub Gives : List Run → List Signal → Type 0
Gives runs signals = signals_of standard_limits (record_of 7 (rows_on 7 (runs ++ close ∷ []))) ≡ signals

pub record SignalsOfRecords : Type 0 where
  pub digit : Gives (make 500 ∷ dial 2) (Seize ∷ Digit 2 false ∷ Close ∷ [])
  pub short_break : Gives (make 500 ∷ break 19 ∷ make 600 ∷ []) (Seize ∷ Digit 1 true ∷ Close ∷ [])
  pub release : Gives (make 500 ∷ break 300 ∷ make 600 ∷ []) (Seize ∷ Release ∷ Seize ∷ Close ∷ [])
  pub released_in_a_train : Gives (make 500 ∷ break 60 ∷ make 40 ∷ break 400 ∷ [])
      (Seize ∷ Release ∷ Close ∷ [])
  pub eleven_pulses : Gives (make 500 ∷ pulses 11 600) (Seize ∷ Digit 11 false ∷ Close ∷ [])
  pub fourteen_pulses : Gives (make 500 ∷ pulses 14 600) (Seize ∷ Digit 11 false ∷ Close ∷ [])
  pub timed_out :
      Gives (make 500 ∷ break 60 ∷ make 20000 ∷ dial 3 ++ break 400 ∷ [])
      (Seize ∷ Digit 1 false ∷ TimeOut ∷ Release ∷ Close ∷ [])
  pub timed_out_at_once : Gives (make 25000 ∷ dial 3) (Seize ∷ TimeOut ∷ Close ∷ [])
  pub timed_out_by_two_rows : Gives (make 10000 ∷ make 10000 ∷ []) (Seize ∷ TimeOut ∷ Close ∷ [])
  pub on_hook : Gives (break 5000 ∷ make 0 ∷ break 5000 ∷ []) (Close ∷ [])
  pub pause_of_two_rows :
      Gives (make 500 ∷ break 60 ∷ make 100 ∷ make 80 ∷ break 60 ∷ make 179 ∷ [])
      (Seize ∷ Digit 1 false ∷ Close ∷ [])
  pub long_break_and_short_make :
      Gives (make 500 ∷ break 150 ∷ make 10 ∷ break 60 ∷ make 600 ∷ []) (Seize ∷ Digit 2 true ∷ Close ∷ [])
  pub release_of_two_rows : Gives (make 500 ∷ break 150 ∷ break 150 ∷ make 1 ∷ [])
      (Seize ∷ Release ∷ Seize ∷ Close ∷ [])
