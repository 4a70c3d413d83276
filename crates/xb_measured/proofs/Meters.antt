-- One sample more of a sound.
use Rattle.std.proofs.Common.{◌≡◌, ◌∙◌, ◌==◌, ℕ, ◌+◌, ◌*◌, ◌/◌, Bool, true, false, codes, eqb-true, List, [], ◌∷◌, ◌++◌, length, max, ap, arith, length-append, refl, ℤ}
use Rattle.std.specs.Prelude.{if◌then◌else◌, unsigned_abs}
use Rattle.xb_ear.specs.Levels.{squares}
use Rattle.xb_measured.specs.Meters.{Metered, loudness_text, mean_text, metered, peak_of, peak_text, quiet_line}
use Rattle.xb_measured.specs.Seconds.{seconds_text}

peak-more : (xs : List ℤ) (x : ℤ) → peak_of (xs ++ x ∷ []) ≡ max (peak_of xs) (unsigned_abs x)
unfolding peak_of
peak-more [] x = omega arith
peak-more (y ∷ xs) x = let e = peak-more xs x in omega (arith, e)

squares-more : (xs : List ℤ) (x : ℤ) → squares (xs ++ x ∷ []) ≡ squares xs + unsigned_abs x * unsigned_abs x
unfolding squares
squares-more [] x = omega arith
squares-more (y ∷ xs) x = let e = squares-more xs x in omega (arith, e)

abbrev pub meter_with : ℕ → ℕ → ℕ → Metered
meter_with n p s = record { samples = n; peak = p; squares = s }

same-meter : (n p s m q t : ℕ) → n ≡ m → p ≡ q → s ≡ t → meter_with n p s ≡ meter_with m q t
same-meter n p s m q t count peak sum =
    ap (λ (x : ℕ). meter_with x p s) count ∙ ap (λ (x : ℕ). meter_with m x s) peak ∙ ap (λ (x : ℕ). meter_with m q x) sum

pub one-more : (old : Metered) (n p s : ℕ) (xs : List ℤ) (x : ℤ) → old ≡ metered xs → n ≡ old.samples + 1
    → p ≡ max old.peak (unsigned_abs x) → s ≡ old.squares + unsigned_abs x * unsigned_abs x
    → meter_with n p s ≡ metered (xs ++ x ∷ [])
one-more old n p s xs x is count peak sum =
    same-meter n p s (length (xs ++ x ∷ [])) (peak_of (xs ++ x ∷ [])) (squares (xs ++ x ∷ []))
    (let a = ap (λ (m : Metered). m.samples) is in let b = length-append xs (x ∷ []) in omega (arith, count, a, b))
    (let a = ap (λ (m : Metered). m.peak) is in let b = peak-more xs x in omega (arith, peak, a, b))
    (let a = ap (λ (m : Metered). m.squares) is in let b = squares-more xs x in omega (arith, sum, a, b))

pub none-yet : meter_with 0 0 0 ≡ metered []
unfolding peak_of squares
none-yet = refl

-- what is told where there was no silence
pub not-silent : (samples peak sum : ℕ) (high low : List ℕ) → (peak ≡ 0 → ⊥) → high ≡ peak_text peak
    → low ≡ mean_text samples sum
    → codes "peak " ++ (high ++ (codes " dBm0, mean " ++ (low ++ codes " dBm0"))) ≡ loudness_text samples peak sum
not-silent samples peak sum high low some is also = by (peak == 0) refl
  where
    by : (b : Bool) → (peak == 0) ≡ b
        → codes "peak " ++ (high ++ (codes " dBm0, mean " ++ (low ++ codes " dBm0")))
        ≡ (if b then codes "silence"
        else codes "peak " ++ (peak_text peak ++ (codes " dBm0, mean " ++ (mean_text samples sum ++ codes " dBm0"))))
    by true e = absurd (some (eqb-true peak 0 e))
    by false e =
        ap (λ (t : List ℕ). codes "peak " ++ (t ++ (codes " dBm0, mean " ++ (low ++ codes " dBm0")))) is
        ∙ ap (λ (t : List ℕ). codes "peak " ++ (peak_text peak ++ (codes " dBm0, mean " ++ (t ++ codes " dBm0")))) also

-- the line of a sound without a key
pub line-of : (m : Metered) (seconds loudness : List ℕ) → seconds ≡ seconds_text (m.samples / 8)
    → loudness ≡ loudness_text m.samples m.peak m.squares
    → codes "mfrx: no key is heard in " ++ (seconds ++ (codes " s: " ++ (loudness ++ codes "\n"))) ≡ quiet_line m
line-of m seconds loudness long loud =
    ap (λ (t : List ℕ). codes "mfrx: no key is heard in " ++ (t ++ (codes " s: " ++ (loudness ++ codes "\n")))) long
    ∙ ap (λ (t : List ℕ). codes "mfrx: no key is heard in "
    ++ (seconds_text (m.samples / 8) ++ (codes " s: " ++ (t ++ codes "\n")))) loud
