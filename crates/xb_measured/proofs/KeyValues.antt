-- The object of a key has no float.
use Rattle.std.proofs.Common.{◌≡◌, ℕ, ℤ, pos, negsuc, Bool, false, ◌||◌, Option, Some, None, refl, arith}
use Rattle.serde_json.specs.Data.{number}
use Rattle.serde_json.specs.Find.{of_integer}
use Rattle.serde_json.specs.Written.{has_float}
use Rattle.xb_measured.specs.declared.heard.Onsets.{Onsets}
use Rattle.xb_measured.specs.declared.figures.Figures.{Figures}
use Rattle.xb_measured.specs.Objects.{gap_data, object_of, skew_data, tenths_data}
use Rattle.xb_measured.specs.declared.levels.TheConstants.{ZERO_DBM0}

no_gap : (gap : Option ℕ) → has_float (gap_data gap) ≡ false
no_gap None = refl
no_gap (Some ms) = refl

no_whole : (z : ℤ) → has_float (number (of_integer z)) ≡ false
no_whole (pos n) = refl
no_whole (negsuc n) = refl

no_skew : (onsets : Option Onsets) → has_float (skew_data onsets) ≡ false
no_skew None = refl
no_skew (Some onsets) = no_whole _

-- the five members that are no plain numbers or texts
five : (a b c d e : Bool) → a ≡ false → b ≡ false → c ≡ false → d ≡ false → e ≡ false
    → a || (b || (c || (d || (e || false)))) ≡ false
five a b c d e none_a none_b none_c none_d none_e = grind (arith, none_a, none_b, none_c, none_d, none_e)

pub no-floats : (figures : Figures) → has_float (object_of figures) ≡ false
no-floats figures =
    five (has_float (gap_data figures.gap_ms)) (has_float (tenths_data figures.high ZERO_DBM0))
    (has_float (tenths_data figures.low ZERO_DBM0)) (has_float (skew_data figures.onsets))
    (has_float (tenths_data figures.high figures.low))
    (no_gap figures.gap_ms) (no_whole _) (no_whole _) (no_skew figures.onsets) (no_whole _)
