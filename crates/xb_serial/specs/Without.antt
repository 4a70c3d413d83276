-- The items that are not on a line.
use Rattle.std.specs.Prelude.{ℕ, ◌==◌, not, List}
use Rattle.std.specs.List.{filter}

-- those of the other lines, in order
abbrev pub without : {X : Type 0} → (X → ℕ) → ℕ → List X → List X
without line l items = filter (λ item. not (line item == l)) items
