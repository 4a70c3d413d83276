-- Where a sample of an MF frequency stands in the table.
use Rattle.std.proofs.Common.{◌≡◌, ◌∙◌, ℕ, ◌+◌, ◌*◌, ◌/◌, ◌%◌, sym, ap, arith, ℤ, ◌+ℤ◌}
use Rattle.std.proofs.Math.Nat.{mul-div_cancel, add-mul-mod_self_right}
use Rattle.xb_model.specs.MfPairs.{pair}
use Rattle.xb_sound.specs.Sines.{sine_at, sine_sample, pair_sample}

-- of a multiple of 100 Hz each sample stands at a whole place
place-whole : (h n : ℕ) → h * 100 * n / 100 ≡ h * n
place-whole h n =
    let e : h * 100 * n ≡ h * n * 100 = omega arith in
    ap (λ (m : ℕ). m / 100) e ∙ mul-div_cancel (h * n) (omega arith)

-- after each 80 samples it stands at the same place
place-turns : (h turns n : ℕ) → h * 100 * (turns * 80 + n) / 100 % 80 ≡ h * 100 * n / 100 % 80
place-turns h turns n =
    let e : h * (turns * 80 + n) ≡ h * n + h * turns * 80 = omega arith in
    ap (λ (m : ℕ). m % 80) (place-whole h (turns * 80 + n) ∙ e)
    ∙ add-mul-mod_self_right (h * n) (h * turns) 80
    ∙ sym (ap (λ (m : ℕ). m % 80) (place-whole h n))

sine_sample-turns : (h turns n : ℕ) → sine_sample (h * 100) (turns * 80 + n) ≡ sine_sample (h * 100) n
sine_sample-turns h turns n = ap (λ (place : ℕ). sine_at place) (place-turns h turns n)

-- so two such frequencies sound the same after each 80 samples
pub pair_sample-turns : (a b turns n : ℕ)
    → pair_sample (pair (a * 100) (b * 100)) (turns * 80 + n) ≡ pair_sample (pair (a * 100) (b * 100)) n
pair_sample-turns a b turns n =
    ap (λ (x : ℤ). x +ℤ sine_sample (b * 100) (turns * 80 + n)) (sine_sample-turns a turns n)
    ∙ ap (λ (y : ℤ). sine_sample (a * 100) n +ℤ y) (sine_sample-turns b turns n)
