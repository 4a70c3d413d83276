-- What is told of a tone at an amplitude beside another.
use Rattle.std.proofs.Common.{◌≡◌, ◌∙◌, ℕ, ◌+◌, ◌-◌, ◌*◌, ◌/◌, ◌^◌, ◌<◌, ◌≤◌, true, map, sym, ap₂, subst, arith, refl, ℤ, ◌+ℤ◌}
use Rattle.std.specs.List.{range_with_len}
use Rattle.std.proofs.Math.Nat.{div-mul-le_self}
use Rattle.std.proofs.lemmas.Bool.{leb-true, ltb-true}
use Rattle.std.proofs.lemmas.Nat.{le-div, mul-le}
use Rattle.xb_measured.specs.declared.heard.MeasuredTone.{MeasuredTone}
use Rattle.xb_measured.specs.Levels.{tenths_of}
use Rattle.xb_measured.specs.Tones.{tone_of}
use Rattle.xb_measured.proofs.Nearest.{tenths_are_nearest}
use Rattle.xb_signal.specs.Levels.{table_at}
use Rattle.xb_sound.proofs.SineTables.{holds_below}
use Rattle.xb_ear.proofs.Standing.{and-both}
use Rattle.xb_laws.proofs.Beside.{between, level-least, level-most, level_at, one-nearest}
use Rattle.xb_laws.proofs.Bounds.{bounds}
use Rattle.xb_laws.proofs.Caps.{cap_at}
use Rattle.xb_laws.proofs.Known.{IsKnown}
use Rattle.xb_laws.proofs.Leaks.{GivesLittle}
use Rattle.xb_laws.proofs.Loud.{given, loud, loud-turns}
use Rattle.xb_laws.proofs.Stretches.{tone-told}
use Rattle.xb_laws.proofs.Tests.{bounds_test, is_below, is_reached, least_of, least_side, own_test}

-- a level that is so many tenths
nearest : (level low high t : ℕ) → low ≤ level → level ≤ high → 0 < level → level < 10 ^ 13 → is_reached low t ≡ true
    → is_below high t ≡ true → tenths_of level ≡ t
nearest level low high t above below some small reached bounded =
    let found = between (32767 ^ 2000) (10 ^ 9039) low level high t above below (leb-true _ _ reached)
    (ltb-true _ _ bounded) in
    let near = tenths_are_nearest level some small in
    one-nearest (32767 ^ 2000) (level ^ 1000 * 10 ^ 9039) (tenths_of level) t near.least near.below found.0 found.1

-- what is told of a frequency that was asked for at a place of the table
pub record IsMeasured (hz place : ℕ) (tone : MeasuredTone) : Type 0 where
  pub hz_is : tone.hz ≡ hz
  pub tenths_are : tenths_of tone.level ≡ place + 472

module _ (f g n x i j : ℕ) (known : IsKnown f n x) (little : GivesLittle g f x) (i-least : 100 ≤ i) (i-most : i ≤ 400)
    (j-least : 100 ≤ j) (j-most : j ≤ 400) (z : ℕ → ℤ)
    (is : (k : ℕ) → z k ≡ loud (table_at i) f k +ℤ loud (table_at j) g k) (m : ℕ) where
  abbrev a : ℕ
  a = table_at i

  bounds-are : bounds_test a (cap_at i) (i + 472) ≡ true
  bounds-are = bounds i i-least (omega (arith, i-most))

  own : own_test f n x a (cap_at i) ≡ true
  own =
      holds_below (λ i. own_test f n x (table_at i) (cap_at i)) 301 100 known.own i i-least (omega (arith, i-most))

  turns : (k : ℕ) → z (k + 80) ≡ z k
  turns k =
      is (k + 80) ∙ ap₂ (λ (p q : ℤ). p +ℤ q) (loud-turns a f k) (loud-turns (table_at j) g k) ∙ sym (is k)

  enough : 724 ≤ a
  enough = leb-true _ _ (and-both _ _ (and-both _ _ bounds-are).0).1

  most : level_at f m z ≤ cap_at i
  most =
      level-most f n x a (cap_at i) m z (loud (table_at j) g) known.wave enough known.few own is
      (little j m j-least j-most)

  least : least_of a / 160000000000 ≤ level_at f m z
  least =
      level-least f n x a (cap_at i) m z (loud (table_at j) g) known.wave enough known.few own is
      (little j m j-least j-most)

  some-level : 0 < level_at f m z
  some-level =
      let v : ℕ = least_side a - 426000 in
      let long : 400000 ≤ v = omega (arith, enough) in
      let square = mul-le 400000 400000 v v long long in
      let one = le-div 1 (v * v) 160000000000 (omega arith) (omega (arith, square)) in
      omega (arith, one, least)

  some-given : 0 < given f m z
  some-given =
      let whole = div-mul-le_self (given f m z) 160000000000 in
      omega (arith, whole, some-level)

  pub measured : IsMeasured (f * 100) i (tone_of (f * 100) (map z (range_with_len m 200)))
  measured =
      let tests = and-both _ _ bounds-are in
      let parts = and-both _ _ (and-both _ _ tests.0).0 in
      let small : cap_at i < 10 ^ 13 = ltb-true _ _ tests.1 in
      let tenths = nearest (level_at f m z) (least_of a / 160000000000) (cap_at i) (i + 472) least most some-level
      (omega (arith, most, small)) parts.1 parts.0 in
      subst (λ (t : MeasuredTone). IsMeasured (f * 100) i t) (sym (tone-told f m z turns some-given))
      (record { hz_is = refl; tenths_are = tenths })
