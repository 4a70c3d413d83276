-- What says of a keying that was heard that it may be another one: a key or a gap that does not keep to its rhythm.
use Rattle.std.specs.Prelude.{ℕ, ◌+◌, List, [], ◌∷◌, ◌++◌, if◌then◌else◌, is_some, nat_lt, Option, Some, None}
use Rattle.xb_measured.specs.declared.heard.Heard.{Heard}
use Rattle.xb_measured.specs.declared.figures.Figures.{Figures}
use Rattle.xb_measured.specs.declared.meaning.Meaning.{Meaning}
use Rattle.xb_measured.specs.declared.rhythm.Rhythm.{Rhythm}
use Rattle.xb_measured.specs.declared.rhythm.TheConstants.{LEAST_GAP_MS}
use Rattle.xb_measured.specs.Figures.{figures_of}
use Rattle.xb_measured.specs.declared.doubts.Doubt.{Doubt}
use Rattle.xb_measured.specs.declared.doubts.DoubtKind.{DoubtKind}
use Rattle.xb_measured.specs.declared.doubts.DoubtKind.TheVariants as kinds
use Rattle.xb_measured.specs.declared.doubts.Effect.{Effect}
use Rattle.xb_measured.specs.declared.doubts.Effect.TheVariants as effects
use Rattle.xb_measured.specs.Keyings.{begins_keying, digit_by}
use Rattle.xb_measured.specs.Rhythms.{least_key_ms, most_gap_ms, most_key_ms, rhythm_of}

abbrev pub doubt : DoubtKind → Effect → ℕ → ℕ → ℕ → Doubt
doubt kind effect key ms usual = record { kind = kind; effect = effect; key = key; ms = ms; usual = usual }

abbrev pub listed_doubt : Option Doubt → List Doubt
listed_doubt None = []
listed_doubt (Some d) = d ∷ []

-- where the time before a key of this number is too long a key may be missing; where it is too short for any sender
-- one of the two may be no key
abbrev pub gap_doubts_by : Rhythm → ℕ → ℕ → List Doubt
gap_doubts_by rhythm key ms =
    if nat_lt (most_gap_ms rhythm) ms then doubt kinds.LongGap effects.Missing key ms rhythm.gap_ms ∷ []
    else (if nat_lt ms LEAST_GAP_MS then doubt kinds.ShortGap effects.Extra key ms rhythm.gap_ms ∷ [] else [])

abbrev pub gap_doubts : Rhythm → ℕ → Option ℕ → List Doubt
gap_doubts rhythm key None = []
gap_doubts rhythm key (Some ms) = gap_doubts_by rhythm key ms

-- a digit that is too short may be a part of another, and so one too many; an ST stands in a keying but once
abbrev pub short_effect : Meaning → Effect
short_effect m = if is_some (digit_by m) then effects.Extra else effects.Cut

-- a key that is too long may be two that were heard as one
abbrev pub length_doubts_by : Rhythm → ℕ → Meaning → ℕ → List Doubt
length_doubts_by rhythm key m ms =
    if nat_lt (most_key_ms rhythm) ms then doubt kinds.LongKey effects.Missing key ms rhythm.key_ms ∷ []
    else (if nat_lt ms (least_key_ms rhythm) then doubt kinds.ShortKey (short_effect m) key ms rhythm.key_ms ∷ [] else [])

-- a KP lasts as long as its sender likes
abbrev pub length_doubts : Rhythm → ℕ → Figures → List Doubt
length_doubts rhythm key figures =
    if begins_keying figures.meaning then [] else length_doubts_by rhythm key figures.meaning figures.length_ms

-- the doubts of keys after so many of their keying, of which this was the last
unfoldable pub doubts_after : Rhythm → ℕ → Option Heard → List Heard → List Doubt
doubts_after rhythm n before [] = []
doubts_after rhythm n before (key ∷ keys) =
    gap_doubts rhythm (n + 1) (figures_of before key).gap_ms
    ++ (length_doubts rhythm (n + 1) (figures_of before key) ++ doubts_after rhythm (n + 1) (Some key) keys)

-- the doubts of a keying
abbrev pub doubts_of : List Heard → List Doubt
doubts_of keys = doubts_after (rhythm_of keys) 0 None keys
