-- Which samples go to and fro.
use Rattle.std.proofs.Common.{◌≡◌, ℕ, zero, suc, ◌+◌, List, [], ◌∷◌, ◌++◌, Bool, true, false, cond, not, nat_eq, nat_le, refl, ap, sym, ◌∙◌, arith, true≢false}
use Rattle.std.specs.Prelude.{◌&&◌, ◌||◌}
use Rattle.std.proofs.lemmas.Bool.{and_parts, eqb-true}
use Rattle.std.proofs.lemmas.Bool.Decides.{nat_tests}
use Rattle.std.proofs.Math.Bool.{and-false, or-true}
use Rattle.xb_samples.specs.declared.turns.TheConstants.{MOST_TURNS}
use Rattle.xb_samples.specs.Turns.{TurnsAreTold, are_held, go_to_and_fro, goes_back, pairs, turns_from}

no-turn : (a b c : ℕ) → nat_eq a b || nat_eq b c ≡ true → goes_back a b c ≡ false
no-turn a b c h = at (nat_eq b c) refl (nat_eq a b) refl h
  where
    at :
        (next : Bool) → nat_eq b c ≡ next → (last : Bool) → nat_eq a b ≡ last → last || next ≡ true → goes_back a b c ≡ false
    at true e last f k = ap (λ t. nat_eq a c && not t) e ∙ and-false (nat_eq a c)
    at false e true f k =
        let same : a ≡ b = eqb-true a b f in
        ap (λ n. nat_eq n c && not (nat_eq b c)) same ∙ ap (λ t. t && not t) e
    at false e false f k = absurd (true≢false (sym k))

held : (samples : List ℕ) → are_held samples ≡ true → go_to_and_fro samples ≡ false
held [] h = refl
held (a ∷ []) h = refl
held (a ∷ b ∷ []) h = refl
held (a ∷ b ∷ c ∷ rest) h =
    let parts = and_parts (nat_eq a b || nat_eq b c) (are_held (b ∷ c ∷ rest)) h in
    ap (λ t. nat_le MOST_TURNS (cond t (1 + turns_from b c rest) 0) || go_to_and_fro (b ∷ c ∷ rest)) (no-turn a b c parts.0)
    ∙ held (b ∷ c ∷ rest) parts.1

itself : (n : ℕ) → nat_eq n n ≡ true
itself n = grind (arith, nat_tests)

turns-of-pairs :
    (more low high : ℕ) (after : List ℕ) → nat_eq low high ≡ false → nat_eq high low ≡ false
    → turns_from low high (pairs more low high after) ≡ more + more + turns_from low high after
turns-of-pairs zero low high after e f = omega arith
turns-of-pairs (suc more) low high after e f =
    let up : goes_back low high low ≡ true = ap (λ t. t && not (nat_eq high low)) (itself low) ∙ ap not f in
    let down : goes_back high low high ≡ true = ap (λ t. t && not (nat_eq low high)) (itself high) ∙ ap not e in
    let rest : List ℕ = pairs more low high after in
    ap (λ t. cond t (1 + turns_from high low (high ∷ rest)) 0) up
    ∙ ap (λ t. 1 + cond t (1 + turns_from low high rest) 0) down
    ∙ ap (λ n. 1 + (1 + n)) (turns-of-pairs more low high after e f)
    ∙ omega arith

later : (before samples : List ℕ) → go_to_and_fro samples ≡ true → go_to_and_fro (before ++ samples) ≡ true
later [] samples h = h
later (a ∷ before) samples h = at (before ++ samples) (later before samples h)
  where
    at : (rest : List ℕ) → go_to_and_fro rest ≡ true → go_to_and_fro (a ∷ rest) ≡ true
    at [] k = cc
    at (b ∷ rest) k = ap (λ t. nat_le MOST_TURNS (turns_from a b rest) || t) k ∙ or-true (nat_le MOST_TURNS (turns_from a b rest))

pub turns_are_told : TurnsAreTold
turns_are_told = record {
  held = held;
  pairs = λ before after low high e.
      let f : nat_eq high low ≡ false = other low high e in
      later before (pairs 126 low high after)
      (ap (λ n. nat_le MOST_TURNS n || go_to_and_fro (high ∷ pairs 125 low high after)) (turns-of-pairs 125 low high after e f)
      ∙ ap (λ t. t || go_to_and_fro (high ∷ pairs 125 low high after)) (long (turns_from low high after)));
}
  where
    long : (n : ℕ) → nat_le MOST_TURNS (125 + 125 + n) ≡ true
    long n = grind (arith, nat_tests)

    other : (low high : ℕ) → nat_eq low high ≡ false → nat_eq high low ≡ false
    other low high e = grind (arith, nat_tests)
