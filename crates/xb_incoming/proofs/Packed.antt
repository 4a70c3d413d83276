-- The digits of a keying, as a register keeps them.
use Rattle.std.proofs.Common.{◌≡◌, ◌∙◌, ℕ, ◌+◌, ◌<◌, ◌≤◌, Bool, true, false, List, [], ◌∷◌, ◌++◌, length, take, sym, ap, ap₂, refl, arith, ⊎_elim}
use Rattle.std.specs.Prelude.{if◌then◌else◌, ◌&&◌, nat_le}
use Rattle.std.proofs.lemmas.Bool.{cases_Bool, cases_lt, cond-true, cond-false, le-leb, lt-leb, lt-ltb, le-ltb, leb-true}
use Rattle.std.proofs.lemmas.List.{length-append, length-take-le, take-append-le, take_all}
use Rattle.xb_model.specs.declared.digits.TheConstants.{NUMBER_DIGITS}
use Rattle.xb_model.specs.declared.dialled.Dialled.TheVariants.{Number, Refused}
use Rattle.xb_model.specs.declared.reason.Reason.TheVariants.{Unknown}
use Rattle.xb_incoming.specs.declared.key.TheConstants.{MOST_COUNT}
use Rattle.xb_incoming.specs.declared.phase.Keyed.{Keyed}
use Rattle.xb_incoming.specs.Attempts.{capped, number_of}
use Rattle.xb_incoming.specs.Machine.{first_with, number_by, one_more, with_digit}

abbrev pub packed : List ℕ → Keyed
packed ds = record { first = take NUMBER_DIGITS ds; count = capped (length ds) }

first-more : (d : ℕ) (ds : List ℕ) → first_with d (take NUMBER_DIGITS ds) ≡ take NUMBER_DIGITS (ds ++ d ∷ [])
first-more d ds = ⊎_elim few many (cases_lt (length ds) NUMBER_DIGITS)
  where
    few : length ds < NUMBER_DIGITS → first_with d (take NUMBER_DIGITS ds) ≡ take NUMBER_DIGITS (ds ++ d ∷ [])
    few h =
        ap (first_with d) (take_all NUMBER_DIGITS ds (omega (arith, h)))
        ∙ cond-true _ _ _ (lt-ltb (length ds) NUMBER_DIGITS h)
        ∙ sym (take_all NUMBER_DIGITS (ds ++ d ∷ []) (omega (arith, h, length-append ds (d ∷ []))))

    many : NUMBER_DIGITS ≤ length ds → first_with d (take NUMBER_DIGITS ds) ≡ take NUMBER_DIGITS (ds ++ d ∷ [])
    many h =
        cond-false _ _ _ (le-ltb (length (take NUMBER_DIGITS ds)) NUMBER_DIGITS (omega (arith, length-take-le NUMBER_DIGITS ds h)))
        ∙ sym (take-append-le NUMBER_DIGITS ds (d ∷ []) h)

count-more : (n : ℕ) → one_more (capped n) ≡ capped (n + 1)
count-more n = ⊎_elim few many (cases_lt n MOST_COUNT)
  where
    few : n < MOST_COUNT → one_more (capped n) ≡ capped (n + 1)
    few h =
        ap one_more (cond-true _ _ _ (le-leb n MOST_COUNT (omega (arith, h))))
        ∙ cond-true _ _ _ (lt-ltb n MOST_COUNT h)
        ∙ omega arith
        ∙ sym (cond-true _ _ _ (le-leb (n + 1) MOST_COUNT (omega (arith, h))))

    all : MOST_COUNT ≤ n → capped n ≡ MOST_COUNT
    all h = ⊎_elim
        (λ l. cond-true _ _ _ l ∙ omega (arith, h, leb-true n MOST_COUNT l))
        (λ l. cond-false _ _ _ l)
        (cases_Bool (nat_le n MOST_COUNT))

    many : MOST_COUNT ≤ n → one_more (capped n) ≡ capped (n + 1)
    many h =
        ap one_more (all h)
        ∙ sym (cond-false _ _ _ (lt-leb (n + 1) MOST_COUNT (omega (arith, h))))

pub packed-more : (d : ℕ) (ds : List ℕ) → with_digit d (packed ds) ≡ packed (ds ++ d ∷ [])
packed-more d ds =
    ap₂ (λ (first : List ℕ) (count : ℕ). record { first = first; count = count }) (first-more d ds)
    (count-more (length ds) ∙ ap capped (sym (length-append ds (d ∷ []))))

and-no : (b : Bool) → (b && false) ≡ false
and-no true = refl
and-no false = refl

capped-many : (n : ℕ) → NUMBER_DIGITS < n → NUMBER_DIGITS < capped n
capped-many n h = ⊎_elim
    (λ l. omega (arith, h, cond-true _ n MOST_COUNT l))
    (λ l. omega (arith, h, cond-false _ n MOST_COUNT l))
    (cases_Bool (nat_le n MOST_COUNT))

-- the number that they are
pub packed-number : (ds : List ℕ) → number_by (packed ds) ≡ number_of ds
packed-number ds = ⊎_elim few many (cases_lt NUMBER_DIGITS (length ds))
  where
    few : NUMBER_DIGITS < length ds → number_by (packed ds) ≡ number_of ds
    few h =
        let more : NUMBER_DIGITS < capped (length ds) = capped-many (length ds) h in
        cond-false _ _ _
        (ap (λ v. nat_le 1 (capped (length ds)) && v) (lt-leb (capped (length ds)) NUMBER_DIGITS more)
        ∙ and-no (nat_le 1 (capped (length ds))))
        ∙ sym
        (cond-false _ _ _
        (ap (λ v. nat_le 1 (length ds) && v) (lt-leb (length ds) NUMBER_DIGITS h) ∙ and-no (nat_le 1 (length ds))))

    many : length ds ≤ NUMBER_DIGITS → number_by (packed ds) ≡ number_of ds
    many h =
        ap₂ (λ (first : List ℕ) (count : ℕ). number_by (record { first = first; count = count }))
        (take_all NUMBER_DIGITS ds h) (cond-true _ _ _ (le-leb (length ds) MOST_COUNT (omega (arith, h))))
        ∙ ap (λ (count : ℕ). if nat_le 1 (length ds) && nat_le (length ds) NUMBER_DIGITS then Number ds else Refused Unknown count)
        (sym (cond-true _ _ _ (le-leb (length ds) MOST_COUNT (omega (arith, h)))))
