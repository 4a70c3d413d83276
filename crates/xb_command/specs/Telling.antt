-- What a program tells on its stream of errors.
use Rattle.std.specs.Prelude.{ℕ, ◌≡◌, ◌⊎◌, ◌++◌, List, codes, Option, Some, IfSome}
use Rattle.xb_text.specs.Writing.{AppendsBeginning}

-- a text as a line, after the program's name
abbrev pub line_of : List ℕ → List ℕ → List ℕ
line_of program text = program ++ (codes ": " ++ (text ++ codes "\n"))

-- the line that tells that memory ran out
abbrev pub no_memory_line : List ℕ → List ℕ
no_memory_line program = line_of program (codes "out of memory")

-- the line of a value, whose text is this, where it is known
abbrev pub IsLineOf : List ℕ → Option (List ℕ) → List ℕ → Type 0
IsLineOf program shown line =
    (text : List ℕ) × IfSome shown (λ known. text ≡ known) × (line ≡ line_of program text)

-- a stream got the line of a value, or that memory ran out, or the beginning of one of these
abbrev pub Tells : List ℕ → Option (List ℕ) → Option (List ℕ) → Option (List ℕ) → Type 0
Tells program shown old new = (line : List ℕ)
    × (IsLineOf program shown line ⊎ IsLineOf program (Some (codes "out of memory")) line)
    × AppendsBeginning old new line
