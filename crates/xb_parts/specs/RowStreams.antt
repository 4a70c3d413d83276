-- Rows that come one at a time, where they are known.
use Rattle.std.specs.Prelude.{ℕ, ◌≡◌, ◌≤◌, ◌-◌, ◌^◌, ◌⊎◌, List, length, ◌++◌, Option, Some, None, IfSome}
use Rattle.xb_model.specs.declared.fault.RowFault.{RowFault}
use Rattle.xb_model.specs.declared.fault.RowFault.TheVariants.{NoMemory, Read, TooMany}
use Rattle.xb_model.specs.Rows.{LoopRow}
use Rattle.xb_model.specs.Sources.{Rest, told}
use Rattle.xb_parts.specs.declared.load.Load.{Load}
use Rattle.xb_parts.specs.Counts.{AreLoadsOf}

-- the fault that stops rows; or a read failed, or memory ran out
abbrev pub IsStop : Option RowFault → RowFault → Type 0
IsStop stop f = (stop ≡ Some f) ⊎ ((f ≡ Read) ⊎ (f ≡ NoMemory))

-- why rows were not taken to their end: by such a stop, or they are more than can be counted
abbrev pub StopsRows : Rest → RowFault → Type 0
StopsRows rest f = IsStop rest.stop f ⊎ ((f ≡ TooMany) × (2 ^ 64 - 1 ≤ length rest.rows))

-- a reader whose read failed, which it tells from then on
abbrev pub HasFailed : Option Rest → Type 0
HasFailed rest = rest ≡ Some (told (Some Read))

-- some rows were given, of those that were known at first
abbrev pub HasGiven : List LoopRow → Option Rest → Option Rest → Type 0
HasGiven before None now = Unit {0}
HasGiven before (Some start) None = ⊥
HasGiven before (Some start) (Some now) = (start.rows ≡ before ++ now.rows) × (now.stop ≡ start.stop)

-- all rows were given, and no fault stops them
abbrev pub HasGivenAll : List LoopRow → Option Rest → Type 0
HasGivenAll rows start = IfSome start (λ rest. (rest.rows ≡ rows) × (rest.stop ≡ None))

-- the loads are those of so many rows
abbrev pub AreCounted : ℕ → Option Rest → Option Rest → List Load → Type 0
AreCounted count start now loads =
    (before : List LoopRow) × (length before ≡ count) × HasGiven before start now × AreLoadsOf before loads

-- the loads are those of all rows
abbrev pub CountsAll : Option Rest → List Load → Type 0
CountsAll start loads = (rows : List LoopRow) × HasGivenAll rows start × AreLoadsOf rows loads
