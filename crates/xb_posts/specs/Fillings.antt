-- What a feed has still to send, and what it takes ahead from its source.
use Rattle.std.specs.Prelude.{◌≡◌, ◌⊎◌, true, false, Bool, List, ◌++◌, map, Option, None, Some, Result, Ok, Err}
use mathlib.Core.List.{IsPrefix}
use Rattle.xb_model.specs.declared.fault.RowFault.{RowFault}
use Rattle.xb_model.specs.declared.fault.RowFault.TheVariants.{NoMemory}
use Rattle.xb_model.specs.Rows.{LoopRow}
use Rattle.xb_model.specs.Sources.{Rest, told}
use Rattle.xb_flow.specs.declared.flow.Flow.{Flow}
use Rattle.xb_flow.specs.declared.flow.Flow.TheVariants.{Item}
use Rattle.xb_flow.specs.Flows.{flow_of}
use Rattle.xb_closes.specs.Left.{kept_in, left}
use Rattle.xb_closes.specs.declared.line_use.LineUse.{LineUse}

-- the rows that a source may give, and the stop after them: all that is left, or where memory runs out
-- the first of its rows
abbrev pub MayGive : Rest → List LoopRow → Option RowFault → Type 0
MayGive rest rows stop =
    ((rows ≡ rest.rows) × (stop ≡ rest.stop))
    ⊎ ((rest.may_allocate ≡ true) × IsPrefix rows rest.rows × (stop ≡ Some NoMemory))

-- what is held, and after it what is fed of the rows that are given and their stop
abbrev pub held_and_left :
    List (Flow LoopRow) → List LineUse → List LoopRow → Option RowFault → List (Flow LoopRow)
held_and_left held uses rows stop = held ++ flow_of (left uses rows stop) true

-- the source gave these rows, and then its stop
abbrev pub GaveAll : Rest → List LoopRow → Option RowFault → Rest → Type 0
GaveAll rest taken stop rest' = MayGive rest taken stop × (rest' ≡ told stop)

-- the source gave these rows alone
abbrev pub GaveRows : Rest → List LoopRow → Rest → Type 0
GaveRows rest taken rest' = rest ≡ record rest' { rows = taken ++ rest'.rows }

-- the source gave these rows, and its stop where that was met
abbrev pub Gave : Rest → List LoopRow → Result Bool RowFault → Rest → Type 0
Gave rest taken (Ok true) rest' = GaveAll rest taken None rest'
Gave rest taken (Ok false) rest' = GaveRows rest taken rest'
Gave rest taken (Err fault) rest' = GaveAll rest taken (Some fault) rest'

-- what is held once these rows were taken: those that are heard come after what was held
abbrev pub held_with : List (Flow LoopRow) → List LineUse → List LoopRow → List (Flow LoopRow)
held_with held uses taken = held ++ map Item (kept_in uses taken)

-- rows were taken from the source: those that are heard are held, and what is left of further rows comes
-- after them
pub record Fills
    (rest : Rest) (held : List (Flow LoopRow)) (uses : List LineUse) (result : Result Bool RowFault)
    (rest' : Rest) (held' : List (Flow LoopRow)) (uses' : List LineUse)
    : Type 0 where
  pub taken : List LoopRow
  pub gave : Gave rest taken result rest'
  pub holds : held' ≡ held_with held uses taken
  pub goes_on : (rows : List LoopRow) (stop : Option RowFault) →
      left uses (taken ++ rows) stop ≡ kept_in uses taken ++ left uses' rows stop
