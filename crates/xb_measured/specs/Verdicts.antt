-- Whether a key is as System R1 (Q.322) wants it of a sender.
use Rattle.std.specs.Prelude.{ℕ, ◌+◌, ◌-◌, ◌*◌, ◌&&◌, ◌||◌, ◌==◌, if◌then◌else◌, List, [], ◌∷◌, ◌++◌, codes, Bool, true, nat_le, Option, Some, None}
use Rattle.std.specs.List.{flat_map}
use Rattle.xb_model.specs.declared.key.Key.TheVariants.{Kp}
use Rattle.xb_measured.specs.declared.figures.Figures.{Figures}
use Rattle.xb_measured.specs.declared.heard.Onsets.{Onsets}
use Rattle.xb_measured.specs.declared.levels.TheConstants.{ZERO_DBM0}
use Rattle.xb_measured.specs.declared.meaning.Meaning.{Meaning}
use Rattle.xb_measured.specs.declared.meaning.Meaning.TheVariants as meaning
use Rattle.xb_measured.specs.declared.verdicts.TheConstants.{KEY_MS, KP_MS, LEVEL_BELOW, MOST_OFF_HZ, MOST_OFF_MS, MOST_OFF_PER_MILLE, MOST_OFF_TENTHS, MOST_SKEW_TENTHS}
use Rattle.xb_measured.specs.declared.verdicts.Limit.{Limit}
use Rattle.xb_measured.specs.declared.verdicts.Limit.TheVariants as limit

-- a number is no further than this from what is wanted
abbrev pub is_about : ℕ → ℕ → ℕ → Bool
is_about wanted off number = nat_le (number - wanted) off && nat_le (wanted - number) off

-- how long a key may be by what it stands for: KP2 is as long as KP, and ST'', by the same pair, is not
abbrev pub length_fits_by : Meaning → ℕ → Bool
length_fits_by (meaning.Key Kp) ms = is_about KP_MS MOST_OFF_MS ms
length_fits_by meaning.Kp2OrStSecond ms = is_about KP_MS MOST_OFF_MS ms || is_about KEY_MS MOST_OFF_MS ms
length_fits_by m ms = is_about KEY_MS MOST_OFF_MS ms

abbrev pub length_fits : Figures → Bool
length_fits figures = length_fits_by figures.meaning figures.length_ms

-- what begins a keying may come at any time, and so may the first key
abbrev pub gap_fits_by : Option ℕ → Meaning → Bool
gap_fits_by None m = true
gap_fits_by (Some ms) (meaning.Key Kp) = true
gap_fits_by (Some ms) meaning.Kp2OrStSecond = true
gap_fits_by (Some ms) m = is_about KEY_MS MOST_OFF_MS ms

abbrev pub gap_fits : Figures → Bool
gap_fits figures = gap_fits_by figures.gap_ms figures.meaning

-- a tone has its frequency, in thousandths of a Hz
abbrev pub tone_fits : ℕ → ℕ → Bool
tone_fits nominal hz =
    is_about (1000 * nominal) (MOST_OFF_PER_MILLE * nominal + 1000 * MOST_OFF_HZ) (1000 * hz)

abbrev pub tuning_fits : Figures → Bool
tuning_fits figures = tone_fits figures.pair.low figures.low_hz && tone_fits figures.pair.high figures.high_hz

abbrev pub twist_fits : Figures → Bool
twist_fits figures = is_about figures.low MOST_OFF_TENTHS figures.high

abbrev pub level_fits : ℕ → Bool
level_fits tenths = is_about (ZERO_DBM0 - LEVEL_BELOW) MOST_OFF_TENTHS tenths

abbrev pub levels_fit : Figures → Bool
levels_fit figures = level_fits figures.low && level_fits figures.high

-- the tones begin together, where it is known when they do
abbrev pub skew_fits_by : Option Onsets → Bool
skew_fits_by None = true
skew_fits_by (Some onsets) = is_about onsets.low MOST_SKEW_TENTHS onsets.high

abbrev pub skew_fits : Figures → Bool
skew_fits figures = skew_fits_by figures.onsets

abbrev pub hole_fits : Figures → Bool
hole_fits figures = figures.hole_ms == 0

-- the limits in their order, each with whether it is kept
abbrev pub limits : Figures → List (Bool × Limit)
limits figures =
    (length_fits figures, limit.Length)
    ∷ (gap_fits figures, limit.Gap)
    ∷ (tuning_fits figures, limit.Tuning)
    ∷ (twist_fits figures, limit.Twist)
    ∷ (levels_fit figures, limit.Level)
    ∷ (skew_fits figures, limit.Skew)
    ∷ (hole_fits figures, limit.Hole)
    ∷ []

abbrev pub missed : Bool × Limit → List Limit
missed one = if one.0 then [] else one.1 ∷ []

-- all that are missed
abbrev pub misses : Figures → List Limit
misses figures = flat_map missed (limits figures)

abbrev pub limit_word : Limit → List ℕ
limit_word limit.Length = codes "LENGTH"
limit_word limit.Gap = codes "GAP"
limit_word limit.Tuning = codes "TUNING"
limit_word limit.Twist = codes "TWIST"
limit_word limit.Level = codes "LEVEL"
limit_word limit.Skew = codes "SKEW"
limit_word limit.Hole = codes "HOLE"

abbrev pub spaced_word : Limit → List ℕ
spaced_word one = codes " " ++ limit_word one

-- what is said of a key that misses these
abbrev pub verdict_text : List Limit → List ℕ
verdict_text [] = codes "GOOD"
verdict_text (first ∷ later) = limit_word first ++ flat_map spaced_word later
