-- The digits of a fraction.
use Rattle.std.proofs.Common.{◌≡◌, ℕ, zero, suc, ◌+◌, ◌-◌, ◌<◌, ◌≤◌, List, ◌∷◌, ◌++◌, length, get_or, drop, take, replicate, refl, ap, sym, ◌∙◌, add-one, arith, length-append}
use Rattle.std.proofs.Math.ListN.{get_or-append}
use Rattle.std.proofs.Math.Seq.{drop-cons, get_or-append_right}
use Rattle.std.proofs.lemmas.List.{get_or-take, length-take-le}
use Rattle.xb_csv.specs.Seconds.{nine_digits}

zeros-at : (n k : ℕ) → ◌≡◌ {A = ℕ} (get_or (replicate n 48) k 48) 48
zeros-at zero k = refl
zeros-at (suc n) zero = refl
zeros-at (suc n) (suc k) = zeros-at n k

-- the digits from a place on, the first of them read with a default
digits-from :
    (text : List ℕ) (i default : ℕ) → i < 9
    → drop i (nine_digits text) ≡ get_or (text ++ replicate 9 48) i default ∷ drop (i + 1) (nine_digits text)
digits-from text i default h =
    let all : List ℕ = text ++ replicate 9 48 in
    let many : 9 ≤ length all = omega (arith, length-append text (replicate 9 48)) in
    let nine : length (take 9 all) ≡ 9 = length-take-le 9 all many in
    drop-cons (take 9 all) i default (omega arith)
    ∙ ap (λ digit. digit ∷ drop (suc i) (take 9 all)) (get_or-take 9 all i default h)
    ∙ ap (λ n. get_or all i default ∷ drop n (take 9 all)) (sym (add-one i))

-- the digit at a place of the text, and those after it
pub digit_there :
    (text : List ℕ) (i : ℕ) → i < 9 → i < length text
    → drop i (nine_digits text) ≡ get_or text i 0 ∷ drop (i + 1) (nine_digits text)
digit_there text i h k =
    digits-from text i 0 h
    ∙ ap (λ digit. digit ∷ drop (i + 1) (nine_digits text)) (get_or-append text (replicate 9 48) 0 i k)

-- past its end they are zeros
pub digit_past :
    (text : List ℕ) (i : ℕ) → i < 9 → length text ≤ i
    → drop i (nine_digits text) ≡ 48 ∷ drop (i + 1) (nine_digits text)
digit_past text i h k =
    digits-from text i 48 h
    ∙ ap (λ digit. digit ∷ drop (i + 1) (nine_digits text))
    (get_or-append_right text (replicate 9 48) i 48 k ∙ zeros-at 9 (i - length text))
