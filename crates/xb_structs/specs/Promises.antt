-- What the marks that a line has given are.
use Rattle.std.specs.Prelude.{◌≡◌, List, map}
use Rattle.xb_model.specs.declared.mark.Mark.{Mark}
use Rattle.xb_model.specs.declared.on.On.{On}
use Rattle.xb_model.specs.Rows.{LoopRow}
use Rattle.xb_routes.specs.Table.{Table}
use Rattle.xb_serial.specs.Promises.{KeepsPromises}
use Rattle.xb_structs.specs.declared.mark.PlainMark.{PlainMark}
use Rattle.xb_structs.specs.Marks.{plain_mark}

-- they are plain numbers of marks that keep the promises of a live office
abbrev pub KeepPromises : Table → List LoopRow → List PlainMark → Type 0
KeepPromises table rows marks =
    (given : List (On Mark)) × (marks ≡ map plain_mark given) × KeepsPromises table rows given
