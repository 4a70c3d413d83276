-- How long drawn bounces last.
use Rattle.std.proofs.Common.{◌≡◌, ℕ, zero, suc, ◌+◌, ◌*◌, ◌/◌, ◌%◌, ◌<◌, ◌≤◌, List, [], Bool, true, false, cond, nat_le, nat_lt, inl, inr, refl, ap, sym, arith, subst}
use Rattle.std.specs.Prelude.{◌&&◌, ◌⊎◌}
use Rattle.std.proofs.lemmas.Nat.{mod_below}
use Rattle.std.proofs.lemmas.Bool.{leb-true, ltb-true}
use Rattle.xb_contact.specs.Bounces.{AreShort, Bounce, bounce_ticks}
use Rattle.xb_dial.specs.Drawn.{bounces_from, bounces_of, count_of, draw, part_at}

-- a part has 1 to `most` us
pub part-bound : (most state n : ℕ) → 0 < most → (0 < part_at most state n) × (part_at most state n ≤ most)
part-bound most state n some =
    let below : draw state n % most < most = mod_below (draw state n) most some in
    (omega arith, omega (arith, below))

-- so many bounces
ticks-bound :
    (most state j count : ℕ) → 0 < most → bounce_ticks (bounces_from most state j count) ≤ count * (most + most)
ticks-bound most state j zero some = omega arith
ticks-bound most state j (suc count) some =
    let holds = part-bound most state (2 * j + 2) some in
    let leaves = part-bound most state (2 * j + 3) some in
    let rest = ticks-bound most state (j + 1) count some in
    omega (arith, holds.1, leaves.1, rest)

up-to-four : (count m : ℕ) → count ≤ 4 → count * m ≤ 4 * m
up-to-four zero m few = omega arith
up-to-four (suc zero) m few = omega arith
up-to-four (suc (suc zero)) m few = omega arith
up-to-four (suc (suc (suc zero))) m few = omega arith
up-to-four (suc (suc (suc (suc zero)))) m few = omega arith
up-to-four (suc (suc (suc (suc (suc count))))) m few = absurd (omega arith)

-- a run bounces only where it lasts longer than the bounces may
pub record Bounces (us ticks count : ℕ) : Type 0 where
  pub some : 8 ≤ us
  pub long : us < ticks
  pub few : count ≤ 4

pub counted : (us state ticks : ℕ) → (count_of us state ticks ≡ 0) ⊎ Bounces us ticks (count_of us state ticks)
counted us state ticks = by (nat_le 8 us) (nat_lt us ticks) refl refl
  where
    by :
        (u v : Bool) → nat_le 8 us ≡ u → nat_lt us ticks ≡ v
        → (cond (u && v) (draw state 1 % 5) 0 ≡ 0) ⊎ Bounces us ticks (cond (u && v) (draw state 1 % 5) 0)
    by true true e k =
        let below : draw state 1 % 5 < 5 = mod_below (draw state 1) 5 (omega arith) in
        inr (record { some = leb-true 8 us e; long = ltb-true us ticks k; few = omega (arith, below) })
    by true false e k = inl refl
    by false true e k = inl refl
    by false false e k = inl refl

no-bounces : (us state ticks : ℕ) → count_of us state ticks ≡ 0 → bounces_of us state ticks ≡ []
no-bounces us state ticks e = ap (λ n. bounces_from (us / 8) state 0 n) e

-- they end within the first `us` us of the run, and before its end
pub bounces-end :
    (us state ticks : ℕ)
    → (bounce_ticks (bounces_of us state ticks) ≤ us) × (bounce_ticks (bounces_of us state ticks) ≤ ticks)
bounces-end us state ticks =
    elim (counted us state ticks) [
      | inl none ↦ none-end (no-bounces us state ticks none)
      | inr some ↦ some-end some
    ]
  where
    none-end :
        bounces_of us state ticks ≡ []
        → (bounce_ticks (bounces_of us state ticks) ≤ us) × (bounce_ticks (bounces_of us state ticks) ≤ ticks)
    none-end e = let none : bounce_ticks (bounces_of us state ticks) ≡ 0 = ap bounce_ticks e in (omega (arith, none), omega (arith, none))

    some-end :
        Bounces us ticks (count_of us state ticks)
        → (bounce_ticks (bounces_of us state ticks) ≤ us) × (bounce_ticks (bounces_of us state ticks) ≤ ticks)
    some-end is =
        let most : ℕ = us / 8 in
        let positive : 0 < most = omega (arith, is.some) in
        let first = ticks-bound most state 0 (count_of us state ticks) positive in
        let second = up-to-four (count_of us state ticks) (most + most) is.few in
        let all : 4 * (most + most) ≤ us = omega arith in
        (omega (arith, first, second, all), omega (arith, first, second, all, is.long))

short-from :
    (least most state j count : ℕ) → 0 < most → most < least → AreShort least (bounces_from most state j count)
short-from least most state j zero some short = tt
short-from least most state j (suc count) some short =
    let holds = part-bound most state (2 * j + 2) some in
    let leaves = part-bound most state (2 * j + 3) some in
    ((holds.0, omega (arith, leaves.1, short)), short-from least most state (j + 1) count some short)

-- each is short
pub bounces-short :
    (least us state ticks : ℕ) → us / 8 < least → AreShort least (bounces_of us state ticks)
bounces-short least us state ticks short =
    elim (counted us state ticks) [
      | inl none ↦ none-short (no-bounces us state ticks none)
      | inr is ↦ short-from least (us / 8) state 0 (count_of us state ticks) (positive is) short
    ]
  where
    positive : Bounces us ticks (count_of us state ticks) → 0 < us / 8
    positive is = omega (arith, is.some)

    none-short : bounces_of us state ticks ≡ [] → AreShort least (bounces_of us state ticks)
    none-short e = subst (λ (bounces : List Bounce). AreShort least bounces) (sym e) tt
