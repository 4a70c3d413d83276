-- The marks of an outcome.
use Rattle.std.specs.Prelude.{◌≡◌, ℕ, ◌<◌, List, length, map, take}
use Rattle.xb_model.specs.declared.stage.TheConstants.{MOST_OUTPUTS}
use Rattle.xb_model.specs.Keyings.{marks_of}
use Rattle.xb_model.specs.Routing.{order_of}
use Rattle.xb_routes.specs.Table.{Table}
use Rattle.xb_structs.specs.declared.mark.PlainMark.{PlainMark}
use Rattle.xb_structs.specs.declared.table.PlainTable.{PlainTable}
use Rattle.xb_structs.specs.Marks.{mark_on}
use Rattle.xb_structs.specs.Tables.{Holds, IsOpen}
use Rattle.xb_onward.specs.declared.outcome.PlainOutcome.{PlainOutcome}
use Rattle.xb_onward.specs.declared.sending.NotSent.{NotSent}
use Rattle.xb_onward.specs.declared.sending.NotSent.TheVariants as why
use Rattle.xb_onward.specs.Outcomes.{outcome_in}

-- by the open table that is held, so many marks at the front of the room are those of the outcome's order, on line 0
pub record Sends (plain : PlainTable) (outcome : PlainOutcome) (room : List PlainMark) (count : ℕ) : Type 0 where
  pub is_open : IsOpen plain
  pub marks : (table : Table) → Holds plain table
      → take count room ≡ map (mark_on 0) (marks_of (order_of table.routes (outcome_in outcome)))

-- the outcome has more marks than there is room for; 24 are always enough
pub record LacksRoom (plain : PlainTable) (outcome : PlainOutcome) (room : ℕ) : Type 0 where
  pub is_open : IsOpen plain
  pub few : room < MOST_OUTPUTS
  pub less : (table : Table) → Holds plain table
      → room < length (marks_of (order_of table.routes (outcome_in outcome)))

-- when each fault comes
abbrev pub IsNotSent : NotSent → PlainTable → PlainOutcome → ℕ → Type 0
IsNotSent why.NotOpened plain outcome room = IsOpen plain → ⊥
IsNotSent why.Room plain outcome room = LacksRoom plain outcome room
