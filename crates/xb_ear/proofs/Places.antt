-- Where a sample of an MF frequency stands in the table.
use Rattle.std.proofs.Common.{◌≡◌, ◌∙◌, ℕ, ◌+◌, ◌*◌, ◌/◌, ◌%◌, sym, ap, arith}
use Rattle.std.proofs.Math.Nat.{mul-div_cancel, add-mul-mod_self_right}
use Rattle.xb_sound.specs.Sines.{sine_at}
use Rattle.xb_ear.specs.Levels.{cosine_of, sine_of}

-- of a multiple of 100 Hz each sample stands at a whole place
pub place-whole : (h n : ℕ) → h * 100 * n / 100 ≡ h * n
place-whole h n =
    let e : h * 100 * n ≡ h * n * 100 = omega arith in
    ap (λ (m : ℕ). m / 100) e ∙ mul-div_cancel (h * n) (omega arith)

-- after each 80 samples it stands at the same place
pub sine_of-turns : (h turns n : ℕ) → sine_of (h * 100) (turns * 80 + n) ≡ sine_of (h * 100) n
sine_of-turns h turns n =
    let e : h * (turns * 80 + n) ≡ h * n + h * turns * 80 = omega arith in
    ap (λ (m : ℕ). sine_at (m % 80)) (place-whole h (turns * 80 + n) ∙ e)
    ∙ ap (λ (place : ℕ). sine_at place) (add-mul-mod_self_right (h * n) (h * turns) 80)
    ∙ sym (ap (λ (m : ℕ). sine_at (m % 80)) (place-whole h n))

pub cosine_of-turns : (h turns n : ℕ) → cosine_of (h * 100) (turns * 80 + n) ≡ cosine_of (h * 100) n
cosine_of-turns h turns n =
    let e : h * (turns * 80 + n) + 20 ≡ h * n + 20 + h * turns * 80 = omega arith in
    ap (λ (m : ℕ). sine_at ((m + 20) % 80)) (place-whole h (turns * 80 + n)) ∙ ap (λ (m : ℕ). sine_at (m % 80)) e
    ∙ ap (λ (place : ℕ). sine_at place) (add-mul-mod_self_right (h * n + 20) (h * turns) 80)
    ∙ sym (ap (λ (m : ℕ). sine_at ((m + 20) % 80)) (place-whole h n))
