-- Lists with a value for each line.
use Rattle.std.specs.Prelude.{◌≡◌, ℕ, ◌<◌, ◌≤◌, List, length, drop, slice_set, slice_index_or}
use Rattle.std.specs.List.{enumerate_from}
use Rattle.std.specs.Borrow.{Lends, Fml, RattleType, MutBor}
use Rattle.xb_model.specs.declared.line.TheConstants.{LINES}
use Rattle.xb_model.specs.contracts.per_line.PerLine.{the_row}

-- once the borrow r ends, the line's place has the last value written through r
abbrev pub LendsLine : (T : RattleType) → MutBor (List T.Denot) → ℕ → MutBor T.Denot → Fml
LendsLine T values line r = Lends (the_row T) T values r (slice_set values.now line)

-- at the place of each line stands its value
abbrev pub AreValues : {T : Type 0} → List T → (ℕ → T) → Type 0
AreValues {T} values value = (l : ℕ) (fallback : T) → l < LINES → slice_index_or values l fallback ≡ value l

-- the lines from n on are left, each with its value
pub record IsLeft {T : Type 0} (values : List T) (n : ℕ) (left : List (ℕ × T)) : Type 0 where
  pub is : left ≡ enumerate_from n (drop n values)
  pub within : n ≤ length values
