-- The bytes of silence.
use Rattle.std.proofs.Common.{◌≡◌, ◌∙◌, ℕ, zero, suc, ◌+◌, ◌*◌, ◌≤◌, List, ◌∷◌, ◌++◌, replicate, take, sym, ap, arith, refl, pos}
use Rattle.std.proofs.lemmas.Grind.{flat_map-append}
use Rattle.std.proofs.lemmas.List.{replicate-append-replicate, take-replicate}
use Rattle.xb_sound.specs.Sounds.{silence}
use Rattle.xb_sound.specs.Wavs.{pcm_of, sample_bytes}

silent-bytes : (n : ℕ) → pcm_of (replicate n (pos 0)) ≡ replicate (n * 2) 0
silent-bytes zero = refl
silent-bytes (suc n) =
    let more : suc n * 2 ≡ suc (suc (n * 2)) = omega arith in
    ap (λ (bytes : List ℕ). 0 ∷ 0 ∷ bytes) (silent-bytes n) ∙ sym (ap (λ k. replicate k 0) more)

-- silence is the bytes of its beginning, and of the rest
pub silence-parts : (a b ms : ℕ) → ms ≡ a + b → pcm_of (silence ms) ≡ pcm_of (silence a) ++ pcm_of (silence b)
silence-parts a b ms is =
    let samples : ms * 8 ≡ a * 8 + b * 8 = omega (arith, is) in
    ap (λ n. pcm_of (replicate n (pos 0))) samples
    ∙ ap pcm_of (sym (replicate-append-replicate (a * 8) (b * 8) (pos 0)))
    ∙ flat_map-append sample_bytes (silence a) (silence b)

-- the beginning of a block of zeros is silence
pub block-silent : (ms size : ℕ) → ms * 16 ≤ size → take (ms * 16) (replicate size 0) ≡ pcm_of (silence ms)
block-silent ms size within =
    let twice : ms * 16 ≡ ms * 8 * 2 = omega arith in
    take-replicate (ms * 16) size 0 within ∙ ap (λ n. replicate n 0) twice ∙ sym (silent-bytes (ms * 8))
