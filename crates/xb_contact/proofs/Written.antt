-- Numbers and names as they are written.
use Rattle.std.proofs.Common.{◌≡◌, ℕ, ◌+◌, ◌-◌, ◌*◌, ◌/◌, ◌%◌, ◌^◌, ◌<◌, ◌≤◌, List, [], ◌∷◌, ◌++◌, Bool, true, false, cond, Option, Some, None, length, refl, ap, sym, subst, ◌∙◌, arith}
use Rattle.std.specs.Prelude.{bytes_eq, decimal, nat_lt}
use Rattle.std.specs.List.{AllByRecursion, IsDistinct, list_all}
use Rattle.std.specs.Option.{option_and_then}
use Rattle.std.proofs.lemmas.Bool.{and_from, and_parts}
use Rattle.std.proofs.lemmas.Bool.Decides.{nat_tests}
use Rattle.std.proofs.lemmas.Fmt.{decimal_by_steps, decimal_nonempty}
use Rattle.std.proofs.lemmas.List.Folds.{list_all-append}
use Rattle.std.proofs.lemmas.Slice.Eq.{bytes_eq-Decides}
use Rattle.xb_contact.specs.Numbers.{digit_after, is_digit, number_after, number_in, number_of}
use Rattle.xb_contact.specs.Changes.{AreInOrder, Change}

-- one more digit
pub digit_is_read :
    (before digit : ℕ) → digit < 10 → before * 10 + digit < 2 ^ 64
    → number_in before ((48 + digit) ∷ []) ≡ Some (before * 10 + digit)
digit_is_read before digit low fits =
    let is : is_digit (48 + digit) ≡ true = grind (arith, nat_tests) in
    let small : nat_lt (before * 10 + digit) (2 ^ 64) ≡ true = grind (arith, nat_tests) in
    let same : 48 + digit - 48 ≡ digit = omega arith in
    ap (λ t. option_and_then (λ longer. number_in longer []) (cond t (digit_after 10 before (48 + digit - 48)) None)) is
    ∙ ap (λ d. option_and_then (λ longer. number_in longer []) (digit_after 10 before d)) same
    ∙ ap (λ t. option_and_then (λ longer. number_in longer []) (cond t (Some (before * 10 + digit)) None)) small

more-digits :
    (first : Option ℕ) (digits longer : List ℕ) (n m : ℕ)
    → ((k : ℕ) → number_in k digits ≡ Some n → number_in k longer ≡ Some m)
    → option_and_then (λ k. number_in k digits) first ≡ Some n
    → option_and_then (λ k. number_in k longer) first ≡ Some m
more-digits None digits longer n m then e = cc
more-digits (Some k) digits longer n m then e = then k e

-- one more digit after others
pub digits_are_read :
    (before n digit : ℕ) (digits : List ℕ) → number_in before digits ≡ Some n → digit < 10 → n * 10 + digit < 2 ^ 64
    → number_in before (digits ++ (48 + digit) ∷ []) ≡ Some (n * 10 + digit)
digits_are_read before n digit [] e low fits =
    let same : before ≡ n = cc in
    subst (λ k. number_in before ((48 + digit) ∷ []) ≡ Some (k * 10 + digit)) same
    (digit_is_read before digit low (subst (λ k. k * 10 + digit < 2 ^ 64) (sym same) fits))
digits_are_read before n digit (byte ∷ digits) e low fits =
    more-digits (number_after before byte) digits (digits ++ (48 + digit) ∷ []) n (n * 10 + digit)
    (λ k f. digits_are_read k n digit digits f low fits) e

decimal-in : (n : ℕ) → n < 2 ^ 64 → number_in 0 (decimal n) ≡ Some n
decimal-in n small =
    decimal_by_steps (λ m digits. m < 2 ^ 64 → number_in 0 digits ≡ Some m)
    (λ m low fits. let same : 0 * 10 + m ≡ m = omega arith in digit_is_read 0 m low (omega arith) ∙ ap Some same)
    (λ m digits high read fits. let same : m / 10 * 10 + m % 10 ≡ m = omega arith in
    digits_are_read 0 (m / 10) (m % 10) digits (read (omega arith)) (omega arith) (omega arith) ∙ ap Some same)
    n small small

some-digits : (digits : List ℕ) → 0 < length digits → number_of digits ≡ number_in 0 digits
some-digits [] some = absurd (omega arith)
some-digits (digit ∷ digits) some = refl

-- a number
pub number_is_read : (n : ℕ) → n < 2 ^ 64 → number_of (decimal n) ≡ Some n
number_is_read n small = some-digits (decimal n) (decimal_nonempty n small) ∙ decimal-in n small

-- what holds of each digit
pub digits_are :
    (test : ℕ → Bool) → ((digit : ℕ) → digit < 10 → test (48 + digit) ≡ true) → (n : ℕ) → n < 2 ^ 64
    → list_all test (decimal n) ≡ true
digits_are test holds n small =
    decimal_by_steps (λ m digits. list_all test digits ≡ true)
    (λ m low. and_from _ _ (holds m low) refl)
    (λ m digits high all. list_all-append test digits ((48 + m % 10) ∷ [])
    ∙ and_from _ _ all (and_from _ _ (holds (m % 10) (omega arith)) refl))
    n small

-- what holds of each byte, and so another
pub all_weaker :
    (test weaker : ℕ → Bool) → ((byte : ℕ) → test byte ≡ true → weaker byte ≡ true) → (bytes : List ℕ)
    → list_all test bytes ≡ true → list_all weaker bytes ≡ true
all_weaker test weaker holds [] all = refl
all_weaker test weaker holds (byte ∷ bytes) all =
    let parts = and_parts (test byte) (list_all test bytes) all in
    and_from _ _ (holds byte parts.0) (all_weaker test weaker holds bytes parts.1)

-- changes in order end with the last
pub never_after_end :
    (wires tick : ℕ) (changes : List Change) (end : ℕ) → AreInOrder wires tick changes end → tick ≤ end
never_after_end wires tick [] end order = order
never_after_end wires tick (change ∷ rest) end order =
    let later : change.tick ≤ end = never_after_end wires change.tick rest end order.2 in
    let first : tick ≤ change.tick = order.1 in
    omega arith

-- a name among others
pub same_bytes : (xs : List ℕ) → bytes_eq xs xs ≡ true
same_bytes xs = (bytes_eq-Decides xs xs).1 refl

turned-bytes : (xs ys : List ℕ) → bytes_eq xs ys ≡ false → bytes_eq ys xs ≡ false
turned-bytes xs ys e = at (bytes_eq ys xs) refl
  where
    at : (b : Bool) → bytes_eq ys xs ≡ b → b ≡ false
    at false h = refl
    at true h =
        let same : ys ≡ xs = (bytes_eq-Decides ys xs).0 h in
        let both : bytes_eq xs ys ≡ true = subst (λ z. bytes_eq xs z ≡ true) (sym same) (same_bytes xs) in
        cc

-- each of these is another name
abbrev pub AreOthers : List ℕ → List (List ℕ) → Type 0
AreOthers name names = AllByRecursion (λ own. bytes_eq own name ≡ false) names

turned : (name : List ℕ) (names : List (List ℕ)) → AllByRecursion (λ own. bytes_eq name own ≡ false) names → AreOthers name names
turned name [] all = tt
turned name (own ∷ names) all = (turned-bytes name own all.0, turned name names all.1)

pub one_of :
    (P : List ℕ → Type 0) (name : List ℕ) (before after : List (List ℕ)) → AllByRecursion P (before ++ name ∷ after) → P name
one_of P name [] after all = all.0
one_of P name (own ∷ before) after all = one_of P name before after all.1

pub others_differ :
    (name : List ℕ) (before after : List (List ℕ)) → IsDistinct bytes_eq (before ++ name ∷ after)
    → AreOthers name before × AreOthers name after
unfolding IsDistinct
others_differ name [] after distinct = (tt, turned name after distinct.0)
others_differ name (own ∷ before) after distinct =
    let later = others_differ name before after distinct.1 in
    ((one_of (λ other. bytes_eq own other ≡ false) name before after distinct.0, later.0), later.1)
