-- Digits that are kept as patterns (two out of five).
use Rattle.std.specs.Prelude.{◌≡◌, ℕ, ◌≤◌, List, length, Bool}
use Rattle.std.specs.List.{filter_map}
use Rattle.xb_model.specs.declared.digits.TheConstants.{NUMBER_DIGITS}
use Rattle.xb_model.specs.TwoOfFive.{digit_of_pattern}

-- the digits that patterns stand for
abbrev pub digits_of : List (List Bool) → List ℕ
digits_of patterns = filter_map digit_of_pattern patterns

-- each pattern is a digit, and there are no more than a number has
pub record IsStored (patterns : List (List Bool)) : Type 0 where
  pub digits : length (digits_of patterns) ≡ length patterns
  pub within : length patterns ≤ NUMBER_DIGITS
