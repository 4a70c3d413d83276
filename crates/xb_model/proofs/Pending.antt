-- Digits that are not yet as many as their number has.
use Rattle.std.proofs.Common.{◌≡◌, ℕ, suc, ◌<◌, ◌≤◌, List, [], ◌∷◌, ◌++◌, length, Bool, true, false, cond, nat_le, Option, Some, None, refl, arith, length-append}
use Rattle.std.specs.Prelude.{◌==◌}
use Rattle.std.proofs.lemmas.Bool.Decides.{nat_tests}
use Rattle.xb_model.specs.Plans.{plan_len, length_after_three}
use Rattle.xb_model.specs.Numbers.{has_length, is_complete, reaches}
use Rattle.xb_model.specs.declared.plan.Plan.{Plan}
use Rattle.xb_model.specs.declared.plan.Plan.TheVariants.{Seven, Ten}

-- one digit alone
abbrev pub one : ℕ → List ℕ
one d = d ∷ []

-- the digits are not yet as many as their number has
abbrev pub IsPending : Plan → List ℕ → Type 0
IsPending plan digits = reaches (plan_len plan digits) (length digits) ≡ false

-- a number whose length three digits tell has three at least
at_least_three : (plan : Plan) (a b c : ℕ) → 3 ≤ length_after_three plan a b c
at_least_three Seven a b c = grind (arith, nat_tests)
at_least_three Ten a b c = grind (arith, nat_tests)

-- a first digit 0 is a whole number, and any other is not
zero_first : (z : Bool) → reaches (cond z (Some 1) None) 1 ≡ has_length (cond z (Some 1) None) 1
zero_first true = refl
zero_first false = refl

-- pending digits do not begin with 0
not_zero : (z : Bool) (o : Option ℕ) (n : ℕ) → reaches (cond z (Some 1) o) (suc n) ≡ false → z ≡ false
not_zero true o n p = grind (arith, nat_tests)
not_zero false o n p = refl

-- one digit more than too few reaches a length where it has just that length
nat_le-suc : (len n : ℕ) → n < len → nat_le len (suc n) ≡ (len == suc n)
nat_le-suc len n h = grind (arith, nat_tests)

-- one digit more than pending ones is as many as the number has where it completes the number
pub reaches-pending : (plan : Plan) (digits : List ℕ) (d : ℕ) → IsPending plan digits
    → reaches (plan_len plan (digits ++ one d)) (length (digits ++ one d))
    ≡ is_complete plan (digits ++ one d)
reaches-pending plan [] d p = zero_first (d == 0)
reaches-pending plan (a ∷ []) d p = rw (not_zero (a == 0) None 0 p)
reaches-pending plan (a ∷ b ∷ []) d p =
    let len : ℕ = length_after_three plan a b d in
    rw (not_zero (a == 0) None 1 p) (nat_le-suc len 2 (omega (arith, at_least_three plan a b d)))
reaches-pending plan (a ∷ b ∷ c ∷ more) d p =
    nonzero (not_zero (a == 0) (Some (length_after_three plan a b c)) (suc (suc (length more))) p)
  where
    longer : List ℕ
    longer = (a ∷ b ∷ c ∷ more) ++ one d

    nonzero : (a == 0) ≡ false → reaches (plan_len plan longer) (length longer) ≡ is_complete plan longer
    nonzero z =
        let len : ℕ = length_after_three plan a b c in
        let n : ℕ = length (a ∷ b ∷ c ∷ more) in
        let short : nat_le len n ≡ false = rw z at p in
        let e : length (a ∷ b ∷ c ∷ (more ++ one d)) ≡ suc n = simp length-append (omega arith) in
        rw (z, e) (nat_le-suc len n (grind (arith, nat_tests, short)))
