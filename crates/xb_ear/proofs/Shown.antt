-- What windows of silence and of tones see, with a disturbance.
use Rattle.std.proofs.Common.{◌≡◌, ◌∙◌, ℕ, zero, suc, ◌+◌, ◌*◌, ◌/◌, ◌%◌, ◌<◌, Bool, true, List, ◌∷◌, map, sym, ap, subst, arith, refl, ℤ, pos, Option, Some, None}
use Rattle.std.specs.List.{list_all, list_any, range_with_len}
use Rattle.std.proofs.lemmas.List.FromFn.{length-map-range_with_len}
use Rattle.std.proofs.lemmas.Nat.{div-add-mod', mod_below}
use Rattle.xb_model.specs.declared.key.Tone.{Tone as Pair}
use Rattle.xb_model.specs.MfPairs.{pair}
use Rattle.xb_sound.specs.Sines.{pair_sample, sine_table}
use Rattle.xb_sound.proofs.Places.{pair_sample-turns}
use Rattle.xb_sound.proofs.SineTables.{holds_below}
use Rattle.xb_ear.specs.Disturbed.{IsNear}
use Rattle.xb_ear.specs.HeardKeys.{MOST_NOISE, MOST_NOISE_IN_TONES}
use Rattle.xb_ear.specs.Hearings.{is_same_pair}
use Rattle.xb_ear.specs.Levels.{correlated}
use Rattle.xb_ear.specs.Pairs.{mf_pairs, seen}
use Rattle.xb_ear.proofs.Bounds.{lowers, uppers}
use Rattle.xb_ear.proofs.Standing.{Sees, sees-none, sees-pair, shows}
use Rattle.xb_ear.proofs.Near.{far_squares}

-- a window that is near 80 samples of a wave, wherever they begin, sees this, whatever lay beside of late
abbrev pub Shows : ℕ → (ℕ → ℤ) → Option Pair → Type 0
Shows noise f what = (k n : ℕ) (ys : List ℤ) → IsNear noise (map f (range_with_len n 80)) ys → Sees what (seen k ys)

-- a wave that turns after 80 samples, from whole turns on
pub turned : (f : ℕ → ℤ) → ((turns n : ℕ) → f (turns * 80 + n) ≡ f n) → (m i turns n : ℕ) → i ≡ turns * 80 + n
    → map f (range_with_len i m) ≡ map f (range_with_len n m)
turned f turns_at zero i turns n at = refl
turned f turns_at (suc m) i turns n at =
    ap (λ (x : ℤ). x ∷ map f (range_with_len (i + 1) m)) (ap f at ∙ turns_at turns n)
    ∙ ap (λ (xs : List ℤ). f n ∷ xs) (turned f turns_at m (i + 1) turns (n + 1) (omega arith))

abbrev pub still : ℕ → ℤ
still n = pos 0

-- silence is the same everywhere
pub still-anywhere : (m i j : ℕ) → map still (range_with_len i m) ≡ map still (range_with_len j m)
still-anywhere zero i j = refl
still-anywhere (suc m) i j = ap (λ (xs : List ℤ). pos 0 ∷ xs) (still-anywhere m (i + 1) (j + 1))

pub silence-shows : Shows MOST_NOISE (λ n. pos 0) None
unfolding correlated far_squares sine_table
silence-shows k n ys near =
    sees-none k MOST_NOISE (map still (range_with_len 0 80)) ys (length-map-range_with_len still 0 80)
    (subst (λ (xs : List ℤ). IsNear MOST_NOISE xs ys) (still-anywhere 80 n 0) near) refl

abbrev pub shown_at : Pair → ℕ → Bool
shown_at p n =
    let clean = map (λ k. pair_sample p k) (range_with_len n 80) in
    shows (lowers MOST_NOISE_IN_TONES clean) (uppers MOST_NOISE_IN_TONES clean) p

pub shown_everywhere : (a b : ℕ) → list_any (λ q. is_same_pair q (pair (a * 100) (b * 100))) mf_pairs ≡ true
    → list_all (λ n. shown_at (pair (a * 100) (b * 100)) n) (range_with_len 0 80) ≡ true
    → Shows MOST_NOISE_IN_TONES (λ k. pair_sample (pair (a * 100) (b * 100)) k) (Some (pair (a * 100) (b * 100)))
shown_everywhere a b known all k n ys near =
    let p = pair (a * 100) (b * 100) in
    let f : ℕ → ℤ = λ k. pair_sample p k in
    let rest : n % 80 < 80 = mod_below n 80 (omega arith) in
    let whole : n ≡ n / 80 * 80 + n % 80 = sym (div-add-mod' n 80) in
    let same : map f (range_with_len n 80) ≡ map f (range_with_len (n % 80) 80) =
    turned f (pair_sample-turns a b) 80 n (n / 80) (n % 80) whole in
    sees-pair k MOST_NOISE_IN_TONES (map f (range_with_len (n % 80) 80)) ys (length-map-range_with_len f (n % 80) 80)
    (subst (λ (xs : List ℤ). IsNear MOST_NOISE_IN_TONES xs ys) same near) p known
    (holds_below (λ k. shown_at p k) 80 0 all (n % 80) (omega arith) (omega arith))
