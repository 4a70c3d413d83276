-- What a source of rows has still to give.
use Rattle.std.specs.Prelude.{◌≡◌, ◌⊎◌, List, [], ◌∷◌, Bool, true, false, Option, Some, None, Result, Ok, Err}
use Rattle.xb_model.specs.declared.fault.RowFault.{RowFault}
use Rattle.xb_model.specs.declared.fault.RowFault.TheVariants.{NoMemory}
use Rattle.xb_model.specs.Rows.{LoopRow}

-- the rows that are left, the fault that stops them, if it is not an end, and whether a call may
-- still allocate, and so run out of memory
pub record Rest : Type 0 where
  pub rows : List LoopRow
  pub stop : Option RowFault
  pub may_allocate : Bool

-- rows of a source that allocates nothing, and an end
abbrev pub ended_by : List LoopRow → Rest
ended_by rows = record { rows = rows; stop = None; may_allocate = false }

-- a stop that was told: nothing else is left
abbrev pub told : Option RowFault → Rest
told stop = record { rows = []; stop = stop; may_allocate = false }

-- rows that stop with this fault
abbrev pub IsStoppedBy : Rest → RowFault → Type 0
IsStoppedBy rest fault = (rest.rows ≡ []) × (rest.stop ≡ Some fault)

-- memory may run out
abbrev pub MayRunOut : Rest → RowFault → Type 0
MayRunOut rest fault = (rest.may_allocate ≡ true) × (fault ≡ NoMemory)

-- one call: the next row, or the stop, which then is told; until it is, a source that may allocate
-- may also stop because memory ran out
abbrev pub Gives : Rest → Result (Option LoopRow) RowFault → Rest → Type 0
Gives old (Ok (Some row)) new =
    (old.rows ≡ row ∷ new.rows) × (new.stop ≡ old.stop) × (new.may_allocate ≡ old.may_allocate)
Gives old (Ok None) new = (old.rows ≡ []) × (old.stop ≡ None) × (new ≡ told None)
Gives old (Err fault) new = (IsStoppedBy old fault ⊎ MayRunOut old fault) × (new ≡ told (Some fault))
