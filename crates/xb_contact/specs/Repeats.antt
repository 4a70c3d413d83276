-- Levels that are said of a wire again.
use Rattle.std.specs.Prelude.{ℕ, ◌+◌, List, [], ◌∷◌, ◌==◌, if◌then◌else◌}
use Rattle.xb_contact.specs.declared.event.Event.{Event}
use Rattle.xb_contact.specs.declared.event.Event.TheVariants as events
use Rattle.xb_contact.specs.declared.level.Level.{Level}
use Rattle.xb_contact.specs.Holds.{same_level}

-- the levels that are said of a wire, in order
abbrev pub levels_of : ℕ → List Event → List Level
levels_of wire [] = []
levels_of wire (events.Ticks scale ∷ rest) = levels_of wire rest
levels_of wire (events.At tick ∷ rest) = levels_of wire rest
levels_of wire (events.Level other level ∷ rest) =
    if other == wire then level ∷ levels_of wire rest else levels_of wire rest
levels_of wire (events.Edge other level ∷ rest) =
    if other == wire then level ∷ levels_of wire rest else levels_of wire rest

-- how many of them are the same as the one before
abbrev pub repeats_after : Level → List Level → ℕ
repeats_after own [] = 0
repeats_after own (level ∷ rest) = (if same_level own level then 1 else 0) + repeats_after level rest

abbrev pub repeats_in : List Level → ℕ
repeats_in [] = 0
repeats_in (level ∷ rest) = repeats_after level rest
