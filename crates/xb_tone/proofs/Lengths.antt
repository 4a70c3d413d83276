-- How long marks sound.
use Rattle.std.proofs.Common.{◌≡◌, ℕ, ◌+◌, ◌*◌, ◌++◌, length, arith, pos}
use Rattle.std.proofs.lemmas.List.{length-append, length-replicate}
use Rattle.std.proofs.lemmas.List.FromFn.{length-map-range_with_len}
use Rattle.xb_model.specs.declared.key.Key.{Key}
use Rattle.xb_model.specs.declared.key.Tone.{Tone as Pair}
use Rattle.xb_model.specs.declared.mark.Mark.TheVariants.{Tone}
use Rattle.xb_sound.specs.declared.cadence.Cadence.{Cadence}
use Rattle.xb_sound.specs.Cadences.{tone_ms}
use Rattle.xb_sound.specs.Sines.{pair_sample}
use Rattle.xb_sound.specs.Sounds.{mark_sound, silence, tone_sound}

pub tone-length : (cadence : Cadence) (key : Key) (pair : Pair) (a b : ℕ) → a ≡ tone_ms cadence key → b ≡ cadence.gap_ms
    → (a + b) * 8 ≡ length (mark_sound cadence (Tone key pair))
tone-length cadence key pair a b a_is b_is =
    let ms = tone_ms cadence key in
    let both : length (tone_sound pair ms ++ silence cadence.gap_ms) ≡ length (tone_sound pair ms) + length (silence cadence.gap_ms) =
    length-append (tone_sound pair ms) (silence cadence.gap_ms) in
    let first : length (tone_sound pair ms) ≡ ms * 8 = length-map-range_with_len (λ n. pair_sample pair n) 0 (ms * 8) in
    let second : length (silence cadence.gap_ms) ≡ cadence.gap_ms * 8 = length-replicate (cadence.gap_ms * 8) (pos 0) in
    omega (arith, both, first, second, a_is, b_is)
