-- The digits that bytes stand for.
use Rattle.std.specs.Prelude.{ℕ, List, map, take, min, nat_lt, if◌then◌else◌}
use Rattle.xb_model.specs.declared.digit.TheConstants.{DIGITS}

-- a digit, 0 for what is none
abbrev pub digit_in : ℕ → ℕ
digit_in byte = if nat_lt byte DIGITS then byte else 0

-- those of the first bytes, as many as `count` says, and no more than `most`
abbrev pub digits_in : ℕ → ℕ → List ℕ → List ℕ
digits_in most count bytes = map digit_in (take (min count most) bytes)
