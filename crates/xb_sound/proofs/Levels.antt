-- How great a sample is.
use Rattle.std.proofs.Common.{ℕ, zero, suc, ◌+◌, ◌*◌, ◌≤◌, List, [], ◌∷◌, ◌++◌, map, replicate, arith, ℤ, pos, ◌+ℤ◌, unsigned_abs}
use Rattle.std.specs.List.{AllByRecursion, range_with_len}
use Rattle.std.proofs.lemmas.Int.{ints}
use Rattle.xb_model.specs.declared.key.Tone.{Tone as Pair}
use Rattle.xb_model.specs.declared.mark.Mark.{Mark}
use Rattle.xb_model.specs.declared.mark.Mark.TheVariants.{Trunk, Tone, Refused}
use Rattle.xb_sound.specs.declared.cadence.Cadence.{Cadence}
use Rattle.xb_sound.specs.Cadences.{tone_ms}
use Rattle.xb_sound.specs.HeardKeys.{NothingClips}
use Rattle.xb_sound.specs.Sines.{pair_sample, sine_sample}
use Rattle.xb_sound.specs.Sounds.{mark_sound, silence, sound_of, tone_sound}
use Rattle.xb_sound.proofs.SineTables.{sine_at-small}

abbrev IsSmall : ℤ → Type 0
IsSmall x = unsigned_abs x ≤ 20000

sum-small : (x y : ℤ) → unsigned_abs x ≤ 10000 → unsigned_abs y ≤ 10000 → unsigned_abs (x +ℤ y) ≤ 20000
sum-small x y small_x small_y = omega (arith, ints)

pair-small : (pair : Pair) (n : ℕ) → IsSmall (pair_sample pair n)
pair-small pair n = sum-small (sine_sample pair.low n) (sine_sample pair.high n) (sine_at-small _) (sine_at-small _)

wave-small : (f : ℕ → ℤ) → ((n : ℕ) → IsSmall (f n)) → (n i : ℕ) → AllByRecursion IsSmall (map f (range_with_len i n))
wave-small f small zero i = tt
wave-small f small (suc n) i = (small i, wave-small f small n (i + 1))

silence-small : (n : ℕ) → AllByRecursion IsSmall (replicate n (pos 0))
silence-small zero = tt
silence-small (suc n) = (omega arith, silence-small n)

both-small : (xs ys : List ℤ) → AllByRecursion IsSmall xs → AllByRecursion IsSmall ys → AllByRecursion IsSmall (xs ++ ys)
both-small [] ys small_x small_y = small_y
both-small (x ∷ xs) ys small_x small_y = (small_x.0, both-small xs ys small_x.1 small_y)

mark-small : (cadence : Cadence) (mark : Mark) → AllByRecursion IsSmall (mark_sound cadence mark)
mark-small cadence (Trunk t) = silence-small (cadence.lead_ms * 8)
mark-small cadence (Tone key pair) =
    both-small (tone_sound pair (tone_ms cadence key)) (silence cadence.gap_ms)
    (wave-small (λ n. pair_sample pair n) (pair-small pair) (tone_ms cadence key * 8) 0)
    (silence-small (cadence.gap_ms * 8))
mark-small cadence (Refused reason heard) = tt

pub nothing_clips : NothingClips
nothing_clips cadence [] = tt
nothing_clips cadence (mark ∷ marks) =
    both-small (mark_sound cadence mark) (sound_of cadence marks) (mark-small cadence mark) (nothing_clips cadence marks)
