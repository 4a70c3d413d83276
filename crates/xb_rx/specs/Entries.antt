-- A keyed entry of a page, or one that was heard.
use Rattle.std.specs.Prelude.{ℕ, List, Option}

-- its line, its number on the line, the names of its keys, each after a blank, and when it was heard, in ms, where it
-- was
pub record KeyedEntry : Type 0 where
  pub line : ℕ
  pub number : ℕ
  pub keys : List ℕ
  pub at : Option ℕ
