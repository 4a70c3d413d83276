-- What is added all through is the same after each second.
use Rattle.std.proofs.Common.{◌≡◌, ◌∙◌, ℕ, ◌+◌, ◌*◌, ◌/◌, ◌%◌, cond, List, [], ◌∷◌, ap, arith, refl, sym, ℤ, pos, ◌+ℤ◌}
use Rattle.std.specs.Prelude.{◌==◌}
use Rattle.std.specs.List.{range_with_len}
use Rattle.std.proofs.lemmas.Nat.{div-add-mod'}
use Rattle.std.proofs.Math.Nat.{add-mul-mod_self_right}
use Rattle.xb_signal.specs.Steadies.{harmonic, harmonics, hum_sample, portion, steady_sample, tone_sample}
use Rattle.xb_signal.specs.SignalLaws.{SteadyGoesOn}
use Rattle.xb_signal.specs.Waves.{scaled, wave_at, wave_sample}

same-place : (hz m n : ℕ) → hz * (m % 8000 + n) % 8000 ≡ hz * (m + n) % 8000
same-place hz m n =
    let q : ℕ = m / 8000 in
    let r : ℕ = m % 8000 in
    let whole : q * 8000 + r ≡ m = div-add-mod' m 8000 in
    let parts : hz * (r + n) + hz * q * 8000 ≡ hz * (q * 8000 + r + n) = omega arith in
    sym (add-mul-mod_self_right (hz * (r + n)) (hz * q) 8000)
    ∙ ap (λ (k : ℕ). k % 8000) parts
    ∙ ap (λ (k : ℕ). hz * (k + n) % 8000) whole

same-wave : (hz m n : ℕ) → wave_sample hz (m % 8000 + n) ≡ wave_sample hz (m + n)
same-wave hz m n = ap wave_at (same-place hz m n)

same-harmonics : (amplitude : ℕ) (numbers : List ℕ) (m n : ℕ)
    → harmonics amplitude numbers (m % 8000 + n) ≡ harmonics amplitude numbers (m + n)
unfolding harmonics
same-harmonics amplitude [] m n = refl
same-harmonics amplitude (number ∷ more) m n =
    ap (λ (x : ℤ). scaled (portion amplitude number) x +ℤ harmonics amplitude more (m % 8000 + n))
    (same-wave (60 * number) m n)
    ∙ ap (λ (x : ℤ). harmonic amplitude number (m + n) +ℤ x) (same-harmonics amplitude more m n)

pub steady_goes_on : SteadyGoesOn
steady_goes_on steady seed m n =
    let hum : ℕ → ℤ = λ k. hum_sample steady.hum k in
    let from : 0 + m ≡ m = omega arith in
    ap (λ (k : ℕ). steady_sample steady (k % 8000 + n)) from
    ∙ ap (λ (x : ℤ). cond (steady.amplitude == 0) (pos 0) (scaled steady.amplitude x) +ℤ hum (m % 8000 + n))
    (same-wave steady.hz m n)
    ∙ ap (λ (x : ℤ). tone_sample steady (m + n) +ℤ cond (steady.hum == 0) (pos 0) x)
    (same-harmonics steady.hum (range_with_len 1 8) m n)
