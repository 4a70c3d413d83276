-- The pieces of a text between bytes.
use Rattle.std.specs.Prelude.{ℕ, ◌+◌, ◌==◌, List, [], drop, take, Option, Some, None, option_map}
use Rattle.std.specs.List.{position, slice_split}

-- what stands before the first such byte, and after it
abbrev pub cut_at : ℕ → List ℕ → Option (List ℕ × List ℕ)
cut_at at text = option_map (λ n. (take n text, drop (n + 1) text)) (position (λ byte. byte == at) text)

-- the pieces of a text between such bytes
abbrev pub pieces : ℕ → List ℕ → List (List ℕ)
pieces byte text = slice_split (λ b. b == byte) text

-- the pieces that are left of a text
abbrev pub pieces_left : ℕ → Option (List ℕ) → List (List ℕ)
pieces_left byte None = []
pieces_left byte (Some text) = pieces byte text
