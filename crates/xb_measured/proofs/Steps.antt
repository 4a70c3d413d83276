-- What it means that each step of a table is the least number that has reached its tenth.
use Rattle.std.proofs.Common.{◌≡◌, ℕ, suc, ◌+◌, ◌-◌, ◌^◌, ◌≤◌, Bool, true, false, ◌&&◌, List, [], ◌∷◌, length, ap, arith, refl, sym, cond, le-leb, leb-false, leb-true}
use Rattle.std.proofs.Math.Nat.{pow-le-pow_left}
use Rattle.std.proofs.lemmas.Bool.{lt-leb}
use Rattle.std.specs.Prelude.{filter, nat_le, not}
use Rattle.std.specs.List.{range_with_len}
use Rattle.xb_measured.specs.Levels.{count_up_to, has_reached}

-- from k on each step is the least number that has reached its tenth
abbrev pub are_least : ℕ → List ℕ → Bool
are_least k [] = true
are_least k (s ∷ ss) = (has_reached s k && not (has_reached (s - 1) k)) && are_least (k + 1) ss

both : (b c : Bool) → (b && c) ≡ true → (b ≡ true) × (c ≡ true)
both true true e = (refl, refl)
both true false e = absurd (cc)
both false c e = absurd (cc)

none : (b : Bool) → not b ≡ true → b ≡ false
none true e = absurd (cc)
none false e = refl

-- a number is at least the least one whose power reaches a bar just where its own power does
at-bar : (bar e s n : ℕ) → nat_le bar (s ^ e) ≡ true → nat_le bar ((s - 1) ^ e) ≡ false → nat_le s n ≡ nat_le bar (n ^ e)
at-bar bar e s n reached before = by (nat_le s n) refl
  where
    by : (b : Bool) → nat_le s n ≡ b → b ≡ nat_le bar (n ^ e)
    by true is =
        let low = leb-true bar (s ^ e) reached in
        let high = pow-le-pow_left (leb-true s n is) e in
        sym (le-leb bar (n ^ e) (omega (arith, low, high)))
    by false is =
        let below = leb-false s n is in
        let low = leb-false bar ((s - 1) ^ e) before in
        let at : n ≤ s - 1 = omega (arith, below) in
        let high = pow-le-pow_left at e in
        sym (lt-leb bar (n ^ e) (omega (arith, low, high)))

same-length : (b c : Bool) (x y : ℕ) (xs ys : List ℕ) → b ≡ c → length xs ≡ length ys
    → length (cond b (x ∷ xs) xs) ≡ length (cond c (y ∷ ys) ys)
same-length true true x y xs ys same more = ap suc more
same-length false false x y xs ys same more = more
same-length true false x y xs ys same more = absurd (cc)
same-length false true x y xs ys same more = absurd (cc)

-- so the steps that a number has reached are the tenths that it has
pub counts : (n k : ℕ) (ss : List ℕ) → are_least k ss ≡ true
    → count_up_to n ss ≡ length (filter (has_reached n) (range_with_len k (length ss)))
unfolding has_reached
counts n k [] all = refl
counts n k (s ∷ ss) all =
    let parts = both (has_reached s k && not (has_reached (s - 1) k)) (are_least (k + 1) ss) all in
    let here = both (has_reached s k) (not (has_reached (s - 1) k)) parts.0 in
    same-length (nat_le s n) (has_reached n k) s k _ _
    (at-bar _ 1000 s n here.0 (none (has_reached (s - 1) k) here.1))
    (counts n (k + 1) ss parts.1)
