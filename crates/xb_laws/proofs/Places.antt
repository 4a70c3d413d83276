-- Where the keys of marks are heard.
use Rattle.std.proofs.Common.{◌≡◌, ℕ, ◌+◌, ◌-◌, ◌*◌, ◌/◌, ◌^◌, ◌≤◌, List, [], ◌∷◌, ◌++◌, map, min, subst, Option, Some, None}
use Rattle.xb_model.specs.declared.mark.Mark.{Mark}
use Rattle.xb_model.specs.declared.mark.Mark.TheVariants.{Trunk, Tone, Refused}
use Rattle.xb_model.specs.declared.key.Key.{Key}
use Rattle.xb_model.specs.declared.key.Tone.{Tone as Pair}
use Rattle.xb_model.specs.declared.reason.Reason.{Reason}
use Rattle.xb_sound.specs.declared.cadence.Cadence.{Cadence}
use Rattle.xb_sound.specs.Cadences.{tone_ms}
use Rattle.xb_ear.specs.declared.hearing.Heard.{Heard}
use Rattle.xb_ear.specs.Ears.{windows_in}
use Rattle.xb_ear.proofs.Steps.{pair_heard}
use Rattle.xb_laws.proofs.Sounding.{FirstLasts}

-- the first window that lies in samples from a place on, and how many windows end up to one; a hearing counts no
-- further than 2^64 - 1
abbrev pub first_within : ℕ → ℕ
first_within begin = min ((begin + 19) / 20) (2 ^ 64 - 1)

abbrev pub past_within : ℕ → ℕ
past_within end = min (windows_in end) (2 ^ 64 - 1)

-- just the tones of marks are heard, where their sound begins at a sample: none begins later than the windows that lie
-- in its tone, or ends before them
abbrev pub ArePlaced : Cadence → ℕ → List Mark → List Heard → Type 0
ArePlaced cadence at [] [] = Unit {0}
ArePlaced cadence at [] (key ∷ keys) = ⊥
ArePlaced cadence at (Trunk t ∷ marks) keys = ArePlaced cadence (at + cadence.lead_ms * 8) marks keys
ArePlaced cadence at (Refused reason count ∷ marks) keys = ArePlaced cadence at marks keys
ArePlaced cadence at (Tone key p ∷ marks) [] = ⊥
ArePlaced cadence at (Tone key p ∷ marks) (k ∷ keys) =
    (k.first ≤ first_within at) × (past_within (at + tone_ms cadence key * 8) ≤ k.past)
    × ArePlaced cadence (at + tone_ms cadence key * 8 + cadence.gap_ms * 8) marks keys

-- the same, where the tone of a pair came before
abbrev pub AreMore : Cadence → Option Pair → ℕ → ℕ → ℕ → List Mark → List Heard → Type 0
AreMore cadence None first past at marks keys = ArePlaced cadence at marks keys
AreMore cadence (Some p) first past at marks [] = ⊥
AreMore cadence (Some p) first past at marks (k ∷ keys) =
    (k.first ≤ first) × (past ≤ k.past) × ArePlaced cadence at marks keys

pub are-more : (cadence : Cadence) (a : Option Pair) (first past from at : ℕ) (marks : List Mark) (keys more : List Heard)
    → AreMore cadence a first past from [] keys → ArePlaced cadence at marks more
    → AreMore cadence a first past at marks (keys ++ more)
are-more cadence None first past from at marks [] more are rest = rest
are-more cadence None first past from at marks (k ∷ keys) more are rest = absurd are
are-more cadence (Some p) first past from at marks [] more are rest = absurd are
are-more cadence (Some p) first past from at marks (k ∷ []) more are rest = (are.0, are.1, rest)
are-more cadence (Some p) first past from at marks (k ∷ l ∷ keys) more are rest = absurd are.2

-- a lead and a refusal have no tone
pub after-lead : (cadence : Cadence) (t : ℕ) (a : Option Pair) (first past at later : ℕ) (marks : List Mark)
    (keys : List Heard) → later ≡ at + cadence.lead_ms * 8 → AreMore cadence a first past later marks keys
    → AreMore cadence a first past at (Trunk t ∷ marks) keys
after-lead cadence t None first past at later marks keys is are =
    subst (λ (n : ℕ). ArePlaced cadence n marks keys) is are
after-lead cadence t (Some p) first past at later marks [] is are = absurd are
after-lead cadence t (Some p) first past at later marks (k ∷ keys) is are =
    (are.0, are.1, subst (λ (n : ℕ). ArePlaced cadence n marks keys) is are.2)

pub after-refusal : (cadence : Cadence) (reason : Reason) (count : ℕ) (a : Option Pair) (first past at : ℕ)
    (marks : List Mark) (keys : List Heard) → AreMore cadence a first past at marks keys
    → AreMore cadence a first past at (Refused reason count ∷ marks) keys
after-refusal cadence reason count None first past at marks keys are = are
after-refusal cadence reason count (Some p) first past at marks [] are = absurd are
after-refusal cadence reason count (Some p) first past at marks (k ∷ keys) are = are

-- a tone that came before is the first of those that are heard
pub with-tone : (cadence : Cadence) (key : Key) (p : Pair) (at : ℕ) (marks : List Mark) (keys : List Heard)
    → AreMore cadence (Some p) (first_within at) (past_within (at + tone_ms cadence key * 8))
    (at + tone_ms cadence key * 8 + cadence.gap_ms * 8) marks keys
    → ArePlaced cadence at (Tone key p ∷ marks) keys
with-tone cadence key p at marks [] are = absurd are
with-tone cadence key p at marks (k ∷ keys) are = are

-- keys of no pair, and of one
pub none-more : (cadence : Cadence) (first past at : ℕ) (keys : List Heard) → map pair_heard keys ≡ []
    → AreMore cadence None first past at [] keys
none-more cadence first past at [] none = tt
none-more cadence first past at (k ∷ keys) none = absurd (cc)

pub one-more : (cadence : Cadence) (p : Pair) (first past at : ℕ) (keys : List Heard) → map pair_heard keys ≡ p ∷ []
    → FirstLasts first past keys → AreMore cadence (Some p) first past at [] keys
one-more cadence p first past at [] single lasts = absurd (cc)
one-more cadence p first past at (k ∷ []) single lasts = (lasts.0, lasts.1, tt)
one-more cadence p first past at (k ∷ l ∷ keys) single lasts = absurd (cc)
