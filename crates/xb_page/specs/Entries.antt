-- Entries of a page.
use Rattle.std.specs.Prelude.{ℕ, List}
use Rattle.xb_model.specs.declared.mark.Mark.{Mark}

-- an entry: its line, its number on the line, and its marks; of a refused one the refusal alone
pub record Entry : Type 0 where
  pub line : ℕ
  pub number : ℕ
  pub marks : List Mark

abbrev pub entry_with : ℕ → ℕ → List Mark → Entry
entry_with line number marks = record { line = line; number = number; marks = marks }
