-- A live office, and what it has taken and given.
use Rattle.std.specs.Prelude.{◌≡◌, ◌⊎◌, List, []}
use Rattle.xb_model.specs.declared.mark.Mark.{Mark}
use Rattle.xb_model.specs.declared.on.On.{On}
use Rattle.xb_model.specs.LawfulLimits.{IsLawful}
use Rattle.xb_model.specs.Lines.{row_line}
use Rattle.xb_model.specs.Rows.{LoopRow}
use Rattle.xb_model.specs.Tapes.{EndsAtLast}
use Rattle.xb_model.specs.States.{AreStates}
use Rattle.xb_routes.specs.Table.{Table}
use Rattle.xb_tape.specs.GatheredMarks.{whats_of}
use Rattle.xb_images.specs.Images.{serial_image}
use Rattle.xb_serial.specs.declared.line.Line.{Line}
use Rattle.xb_serial.specs.Chain.{live_machine}

-- its table, the state of each line, and the marks of the last row
pub record Office : Type 0 where
  pub table : Table
  pub lines : List Line
  pub given : List (On Mark)

-- the marks that the chain gives of these rows, and nothing more
abbrev pub marks_of_rows : Table → List LoopRow → List (On Mark)
marks_of_rows table rows = serial_image table.plan table.limits table.routes rows

-- these are the rows that it has taken so far, and the marks that it has given for them
pub record HasTaken (office : Office) (rows : List LoopRow) (marks : List (On Mark)) : Type 0 where
  pub lawful : IsLawful office.table.limits
  pub states : AreStates row_line (live_machine office.table) office.lines rows
  pub chain : marks ≡ marks_of_rows office.table rows

-- there are no marks, or they are one whole entry
abbrev pub IsEntryOrNone : List (On Mark) → Type 0
IsEntryOrNone marks = (marks ≡ []) ⊎ EndsAtLast (whats_of marks)
