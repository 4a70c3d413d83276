-- What a window sees, whatever a disturbance does to it: by bounds on each level.
use Rattle.std.proofs.Common.{◌≡◌, ℕ, ◌+◌, ◌-◌, ◌*◌, ◌/◌, ◌≤◌, ◌^◌, Bool, true, false, List, length, subst, arith, refl, ℤ, ◌-ℤ◌, unsigned_abs}
use native.Mathlib.Nat.{pow-le-pow_left}
use Rattle.std.specs.Prelude.{if◌then◌else◌}
use Rattle.std.proofs.lemmas.Int.{ints}
use Rattle.std.proofs.lemmas.Nat.{mul-le}
use Rattle.std.proofs.lemmas.Bool.{leb-true}
use Rattle.xb_ear.specs.declared.levels.Levels.{Levels}
use Rattle.xb_ear.specs.Disturbed.{IsNear}
use Rattle.xb_ear.specs.Levels.{correlated, cosine_of, level, levels_of, part, sine_of, squares}
use Rattle.xb_ear.specs.Pairs.{level_at}
use Rattle.xb_sound.specs.Sines.{sine_table}
use Rattle.xb_ear.proofs.Near.{far_squares, near-correlated, near-squares, reach}

-- a disturbance of 1 changes a sum by at most so much
abbrev pub REACH : ℕ
REACH = 509032

abbrev pub most : ℕ → List ℤ → ℕ → ℕ
most n clean hz =
    ((unsigned_abs (correlated (sine_of hz) 0 clean) + n * REACH) / 400000) ^ 2
    + ((unsigned_abs (correlated (cosine_of hz) 0 clean) + n * REACH) / 400000) ^ 2

abbrev pub least : ℕ → List ℤ → ℕ → ℕ
least n clean hz =
    ((unsigned_abs (correlated (sine_of hz) 0 clean) - n * REACH) / 400000) ^ 2
    + ((unsigned_abs (correlated (cosine_of hz) 0 clean) - n * REACH) / 400000) ^ 2

-- the waves of a frequency reach no further
pub record IsWithinReach (hz : ℕ) : Type 0 where
  pub sine : reach (sine_of hz) 0 80 ≤ REACH
  pub cosine : reach (cosine_of hz) 0 80 ≤ REACH

pub square-mono : (p q : ℕ) → p ≤ q → p ^ 2 ≤ q ^ 2
square-mono p q below = pow-le-pow_left below 2

pub part-most : (n r : ℕ) (s t : ℤ) → r ≤ REACH → unsigned_abs (t -ℤ s) ≤ n * r → part t ≤ (unsigned_abs s + n * REACH) / 400000
part-most n r s t small near =
    let all : n * r ≤ n * REACH = mul-le n r n REACH (omega arith) small in
    let far : unsigned_abs t ≤ unsigned_abs s + n * REACH = omega (arith, ints, near, all) in
    omega (arith, far)

pub part-least : (n r : ℕ) (s t : ℤ) → r ≤ REACH → unsigned_abs (t -ℤ s) ≤ n * r → (unsigned_abs s - n * REACH) / 400000 ≤ part t
part-least n r s t small near =
    let all : n * r ≤ n * REACH = mul-le n r n REACH (omega arith) small in
    let far : unsigned_abs s - n * REACH ≤ unsigned_abs t = omega (arith, ints, near, all) in
    omega (arith, far)

module _ (n : ℕ) (clean ys : List ℤ) (long : length clean ≡ 80) (near : IsNear n clean ys) where
  sine-near : (hz : ℕ) → unsigned_abs (correlated (sine_of hz) 0 ys -ℤ correlated (sine_of hz) 0 clean) ≤ n * reach (sine_of hz) 0 80
  sine-near hz = subst (λ k. unsigned_abs (correlated (sine_of hz) 0 ys -ℤ correlated (sine_of hz) 0 clean) ≤ n * reach (sine_of hz) 0 k) long
      (near-correlated n (sine_of hz) 0 clean ys near)

  cosine-near : (hz : ℕ) → unsigned_abs (correlated (cosine_of hz) 0 ys -ℤ correlated (cosine_of hz) 0 clean) ≤ n * reach (cosine_of hz) 0 80
  cosine-near hz = subst (λ k. unsigned_abs (correlated (cosine_of hz) 0 ys -ℤ correlated (cosine_of hz) 0 clean) ≤ n * reach (cosine_of hz) 0 k) long
      (near-correlated n (cosine_of hz) 0 clean ys near)

  level-most : (hz : ℕ) → IsWithinReach hz → level ys hz ≤ most n clean hz
  level-most hz within =
      let s = square-mono _ _ (part-most n _ (correlated (sine_of hz) 0 clean) (correlated (sine_of hz) 0 ys) within.sine (sine-near hz)) in
      let c = square-mono _ _ (part-most n _ (correlated (cosine_of hz) 0 clean) (correlated (cosine_of hz) 0 ys) within.cosine (cosine-near hz)) in
      omega (arith, s, c)

  level-least : (hz : ℕ) → IsWithinReach hz → least n clean hz ≤ level ys hz
  level-least hz within =
      let s = square-mono _ _ (part-least n _ (correlated (sine_of hz) 0 clean) (correlated (sine_of hz) 0 ys) within.sine (sine-near hz)) in
      let c = square-mono _ _ (part-least n _ (correlated (cosine_of hz) 0 clean) (correlated (cosine_of hz) 0 ys) within.cosine (cosine-near hz)) in
      omega (arith, s, c)

-- levels that are nowhere greater than others
pub record IsBelow (a b : Levels) : Type 0 where
  pub b700 : a.hz700 ≤ b.hz700
  pub b900 : a.hz900 ≤ b.hz900
  pub b1100 : a.hz1100 ≤ b.hz1100
  pub b1300 : a.hz1300 ≤ b.hz1300
  pub b1500 : a.hz1500 ≤ b.hz1500
  pub b1700 : a.hz1700 ≤ b.hz1700
  pub all : a.power ≤ b.power

pub if-le : (b : Bool) (x y u v : ℕ) → x ≤ u → y ≤ v → (if b then x else y) ≤ (if b then u else v)
if-le true x y u v h k = h
if-le false x y u v h k = k

pub at-below : (a b : Levels) → IsBelow a b → (hz : ℕ) → level_at a hz ≤ level_at b hz
at-below a b below hz =
    if-le _ _ _ _ _ below.b700 (if-le _ _ _ _ _ below.b900 (if-le _ _ _ _ _ below.b1100
    (if-le _ _ _ _ _ below.b1300 (if-le _ _ _ _ _ below.b1500 below.b1700))))

-- no wave reaches further
pub reach-700 : IsWithinReach 700
unfolding reach sine_table
reach-700 = record { sine = leb-true _ _ refl; cosine = leb-true _ _ refl }

pub reach-900 : IsWithinReach 900
unfolding reach sine_table
reach-900 = record { sine = leb-true _ _ refl; cosine = leb-true _ _ refl }

pub reach-1100 : IsWithinReach 1100
unfolding reach sine_table
reach-1100 = record { sine = leb-true _ _ refl; cosine = leb-true _ _ refl }

pub reach-1300 : IsWithinReach 1300
unfolding reach sine_table
reach-1300 = record { sine = leb-true _ _ refl; cosine = leb-true _ _ refl }

pub reach-1500 : IsWithinReach 1500
unfolding reach sine_table
reach-1500 = record { sine = leb-true _ _ refl; cosine = leb-true _ _ refl }

pub reach-1700 : IsWithinReach 1700
unfolding reach sine_table
reach-1700 = record { sine = leb-true _ _ refl; cosine = leb-true _ _ refl }

abbrev pub uppers : ℕ → List ℤ → Levels
uppers n clean = record {
  hz700 = most n clean 700;
  hz900 = most n clean 900;
  hz1100 = most n clean 1100;
  hz1300 = most n clean 1300;
  hz1500 = most n clean 1500;
  hz1700 = most n clean 1700;
  power = far_squares n clean / 40;
}

abbrev pub lowers : ℕ → List ℤ → Levels
lowers n clean = record {
  hz700 = least n clean 700;
  hz900 = least n clean 900;
  hz1100 = least n clean 1100;
  hz1300 = least n clean 1300;
  hz1500 = least n clean 1500;
  hz1700 = least n clean 1700;
  power = 0;
}

module _ (n : ℕ) (clean ys : List ℤ) (long : length clean ≡ 80) (near : IsNear n clean ys) where
  pub below-uppers : IsBelow (levels_of ys) (uppers n clean)
  below-uppers =
      let power : squares ys ≤ far_squares n clean = near-squares n clean ys near in
      record {
        b700 = level-most n clean ys long near 700 reach-700;
        b900 = level-most n clean ys long near 900 reach-900;
        b1100 = level-most n clean ys long near 1100 reach-1100;
        b1300 = level-most n clean ys long near 1300 reach-1300;
        b1500 = level-most n clean ys long near 1500 reach-1500;
        b1700 = level-most n clean ys long near 1700 reach-1700;
        all = omega (arith, power);
      }

  pub lowers-below : IsBelow (lowers n clean) (levels_of ys)
  lowers-below =
      record {
        b700 = level-least n clean ys long near 700 reach-700;
        b900 = level-least n clean ys long near 900 reach-900;
        b1100 = level-least n clean ys long near 1100 reach-1100;
        b1300 = level-least n clean ys long near 1300 reach-1300;
        b1500 = level-least n clean ys long near 1500 reach-1500;
        b1700 = level-least n clean ys long near 1700 reach-1700;
        all = omega arith;
      }
