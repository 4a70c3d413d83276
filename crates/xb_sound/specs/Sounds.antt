-- The samples of marks, 8 of them in a ms.
use Rattle.std.specs.Prelude.{ℕ, ◌*◌, List, [], ◌++◌, map, replicate, ℤ, pos}
use Rattle.std.specs.List.{flat_map, range_with_len}
use Rattle.xb_model.specs.declared.key.Tone.{Tone as Pair}
use Rattle.xb_model.specs.declared.mark.Mark.{Mark}
use Rattle.xb_model.specs.declared.mark.Mark.TheVariants.{Trunk, Tone, Refused}
use Rattle.xb_sound.specs.declared.cadence.Cadence.{Cadence}
use Rattle.xb_sound.specs.Cadences.{tone_ms}
use Rattle.xb_sound.specs.Sines.{pair_sample}

abbrev pub silence : ℕ → List ℤ
silence ms = replicate (ms * 8) (pos 0)

-- a tone begins at the start of both its sines, and is not broken until it ends
abbrev pub tone_sound : Pair → ℕ → List ℤ
tone_sound pair ms = map (λ n. pair_sample pair n) (range_with_len 0 (ms * 8))

-- a trunk group is the silence before its keying, a key its tone and the silence after it; a refusal
-- is not heard
abbrev pub mark_sound : Cadence → Mark → List ℤ
mark_sound cadence (Trunk t) = silence cadence.lead_ms
mark_sound cadence (Tone key pair) = tone_sound pair (tone_ms cadence key) ++ silence cadence.gap_ms
mark_sound cadence (Refused reason heard) = []

-- the samples of marks, one mark after the other
abbrev pub sound_of : Cadence → List Mark → List ℤ
sound_of cadence marks = flat_map (λ mark. mark_sound cadence mark) marks
