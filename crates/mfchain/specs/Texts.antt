-- Texts as C has them.
use Rattle.std.specs.Prelude.{◌≡◌, ℕ, ◌+◌, List, [], ◌∷◌, ◌++◌, length, take}

-- the text, and a zero after it, are at the front of the room
abbrev pub HasText : List ℕ → List ℕ → Type 0
HasText text room = take (length text + 1) room ≡ text ++ 0 ∷ []
