-- What wires do, change by change.
use Rattle.std.specs.Prelude.{◌≡◌, ℕ, ◌<◌, ◌≤◌, List, [], ◌∷◌, bytes_eq, length, nat_lt, true}
use Rattle.std.specs.List.{AllByRecursion, IsDistinct, list_all}
use Rattle.xb_contact.specs.declared.event.Event.{Event}
use Rattle.xb_contact.specs.declared.event.Event.TheVariants as events
use Rattle.xb_contact.specs.declared.level.Level.{Level}

-- from this tick on a wire, counted from 0, has this level
pub record Change : Type 0 where
  pub tick : ℕ
  pub wire : ℕ
  pub level : Level

-- what a recording of them says: of each its tick, and then its level
abbrev pub change_events : List Change → List Event
change_events [] = []
change_events (change ∷ rest) =
    events.At change.tick ∷ events.Level change.wire change.level ∷ change_events rest

-- changes of so many wires, whose ticks never fall, from this one on up to an end
abbrev pub AreInOrder : ℕ → ℕ → List Change → ℕ → Type 0
AreInOrder wires tick [] end = tick ≤ end
AreInOrder wires tick (change ∷ rest) end =
    (change.wire < wires) × (tick ≤ change.tick) × AreInOrder wires change.tick rest end

-- the name of a wire has a byte, and no blank or control byte
abbrev pub IsName : List ℕ → Type 0
IsName name = (0 < length name) × (list_all (nat_lt 32) name ≡ true)

-- names, no two the same
pub record AreNames (names : List (List ℕ)) : Type 0 where
  pub words : AllByRecursion IsName names
  pub distinct : IsDistinct bytes_eq names
