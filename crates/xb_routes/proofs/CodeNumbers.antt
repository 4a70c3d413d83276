-- The numbers of codes: no two codes have the same.
use Rattle.std.proofs.Common.{◌≡◌, ℕ, zero, suc, ◌+◌, ◌*◌, ◌≤◌, ◌<◌, List, [], ◌∷◌, ◌++◌, refl, sym, ap, subst, ◌∙◌, reverse, arith}
use Rattle.std.specs.List.{AllByRecursion}
use Rattle.std.proofs.lemmas.Grind.{reverse_onto}
use Rattle.std.proofs.lemmas.List.{reverse-reverse}
use Rattle.xb_model.specs.declared.digit.TheConstants.{DIGITS}
use Rattle.xb_routes.specs.Codes.{AreDigits}
use Rattle.xb_routes.specs.Places.{code_number, number_from}

-- what holds of each, and of one more
pub all-push : {A : Type 0} (P : A → Type 0) (xs : List A) (x : A) → AllByRecursion P xs → P x → AllByRecursion P (xs ++ x ∷ [])
all-push P [] x a p = (p, tt)
all-push P (y ∷ xs) x a p = (a.0, all-push P xs x a.1 p)

-- one digit more
number-push : (n : ℕ) (digits : List ℕ) (digit : ℕ) → number_from n (digits ++ digit ∷ []) ≡ 10 * number_from n digits + digit
number-push n [] digit = refl
number-push n (x ∷ digits) digit = number-push (10 * n + x) digits digit

-- the number of digits that are told from the last on
abbrev number_back : List ℕ → ℕ
number_back [] = 1
number_back (digit ∷ digits) = 10 * number_back digits + digit

number-reverse : (digits : List ℕ) → code_number (reverse digits) ≡ number_back digits
number-reverse [] = refl
number-reverse (digit ∷ digits) =
    ap code_number (reverse_onto digits digit []) ∙ number-push 1 (reverse digits) digit
    ∙ ap (λ n. 10 * n + digit) (number-reverse digits)

digits-reverse : (digits : List ℕ) → AreDigits digits → AreDigits (reverse digits)
digits-reverse [] ds = tt
digits-reverse (digit ∷ digits) ds =
    subst (λ (xs : List ℕ). AreDigits xs) (sym (reverse_onto digits digit []))
    (all-push (λ x. x < DIGITS) (reverse digits) digit (digits-reverse digits ds.1) ds.0)

back-positive : (digits : List ℕ) → 1 ≤ number_back digits
back-positive [] = omega arith
back-positive (digit ∷ digits) = omega (arith, back-positive digits)

back-injective : (digits others : List ℕ) → AreDigits digits → AreDigits others → number_back digits ≡ number_back others → digits ≡ others
back-injective [] [] ds es e = refl
back-injective [] (y ∷ others) ds es e = absurd (omega (arith, back-positive others, e))
back-injective (x ∷ digits) [] ds es e = absurd (omega (arith, back-positive digits, e))
back-injective (x ∷ digits) (y ∷ others) ds es e =
    let first : x ≡ y = omega (arith, ds.0, es.0, e) in
    let more : number_back digits ≡ number_back others = omega (arith, ds.0, es.0, e) in
    let rest = back-injective digits others ds.1 es.1 more in
    cc

-- codes of the same number are the same
pub number-injective : (code other : List ℕ) → AreDigits code → AreDigits other → code_number code ≡ code_number other → code ≡ other
number-injective code other ds es e =
    sym (reverse-reverse code)
    ∙ ap reverse (back-injective (reverse code) (reverse other) (digits-reverse code ds) (digits-reverse other es) (back code ∙ e ∙ sym (back other)))
    ∙ reverse-reverse other
  where
    back : (digits : List ℕ) → number_back (reverse digits) ≡ code_number digits
    back digits = sym (number-reverse (reverse digits)) ∙ ap code_number (reverse-reverse digits)

-- a number that no code of n digits reaches
abbrev pub past_numbers : ℕ → ℕ
past_numbers zero = 2
past_numbers (suc n) = 10 * past_numbers n

past-least : (n : ℕ) → 2 ≤ past_numbers n
past-least zero = omega arith
past-least (suc n) = omega (arith, past-least n)

pub past-longer : (k n : ℕ) → k ≤ n → past_numbers k ≤ past_numbers n
past-longer zero n h = past-least n
past-longer (suc k) zero h = absurd (omega arith)
past-longer (suc k) (suc n) h = omega (arith, past-longer k n (omega arith))
