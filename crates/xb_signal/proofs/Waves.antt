-- How great a sample is, and a sum of samples.
use Rattle.std.proofs.Common.{◌≡◌, ◌∙◌, ℕ, zero, suc, ◌+◌, ◌<◌, ◌≤◌, Bool, true, false, ◌&&◌, List, [], ◌∷◌, drop, get_or, length, sym, ap, arith, refl, leb, ℤ, ◌+ℤ◌}
use Rattle.std.specs.List.{list_all}
use Rattle.std.proofs.lemmas.Bool.{leb-true, false≢true}
use Rattle.std.proofs.Math.Seq.{drop-cons}
use Rattle.std.proofs.lemmas.Int.{ints}
use Rattle.xb_signal.specs.Waves.{chorus, quarter, quarter_at, scaled, wave_sample}

and-both : (b c : Bool) → (b && c) ≡ true → (b ≡ true) × (c ≡ true)
and-both true c e = (refl, e)
and-both false c e = absurd (false≢true e)

abbrev is_small : ℕ → Bool
is_small x = leb x 10000

small_at : (xs : List ℕ) → list_all is_small xs ≡ true → (n : ℕ) → get_or xs n 0 ≤ 10000
small_at [] all n = omega arith
small_at (x ∷ xs) all zero = leb-true _ _ (and-both (is_small x) (list_all is_small xs) all).0
small_at (x ∷ xs) all (suc n) = small_at xs (and-both (is_small x) (list_all is_small xs) all).1 n

pub quarter-small : (place : ℕ) → quarter_at place ≤ 10000
unfolding quarter
quarter-small place = small_at quarter refl place

sum-assoc : (a b c : ℤ) → (a +ℤ b) +ℤ c ≡ a +ℤ (b +ℤ c)
sum-assoc a b c = omega (arith, ints)

-- a sum goes on with the next frequency
pub chorus-next : (amplitude : ℕ) (tones : List ℕ) (i n : ℕ) (sum : ℤ) → i < length tones
    → (sum +ℤ scaled amplitude (wave_sample (get_or tones i 0) n)) +ℤ chorus amplitude (drop (i + 1) tones) n
    ≡ sum +ℤ chorus amplitude (drop i tones) n
chorus-next amplitude tones i n sum below =
    let next : suc i ≡ i + 1 = omega arith in
    let here = scaled amplitude (wave_sample (get_or tones i 0) n) in
    sum-assoc sum here (chorus amplitude (drop (i + 1) tones) n)
    ∙ ap (λ (x : ℤ). sum +ℤ x) (sym (ap (λ (xs : List ℕ). chorus amplitude xs n) (drop-cons tones i 0 below)
    ∙ ap (λ (k : ℕ). here +ℤ chorus amplitude (drop k tones) n) next))
