-- The numbers of a tone, as they are reckoned.
use Rattle.std.proofs.Common.{◌≡◌, ◌∙◌, ℕ, zero, suc, ◌+◌, ◌*◌, ◌/◌, ◌≤◌, Bool, true, false, ◌&&◌, List, [], ◌∷◌, get_or, leb, ap, ap₂, arith, refl, ℤ, pos, negsuc, ◌+ℤ◌, ◌-ℤ◌, ◌<ℤ◌, unsigned_abs, to_z, of_z}
use mir.Syntax.{w128}
use Rattle.std.specs.List.{list_all}
use Rattle.std.specs.Prelude.{if◌then◌else◌, int_le}
use Rattle.std.proofs.lemmas.Bool.{leb-true, lt-leb}
use Rattle.std.proofs.lemmas.Int.{ints, to_z-of_z, fits_signed_from_abs}
use Rattle.std.proofs.lemmas.Nat.{mul-le}
use Rattle.xb_measured.specs.declared.heard.MeasuredTone.{MeasuredTone}
use Rattle.xb_measured.specs.declared.wave_sums.Sums.{Sums}
use Rattle.xb_measured.specs.Levels.{count_up_to}
use Rattle.xb_measured.specs.Tones.{across, along, gains, hz_with, level_of, off_of, tangents, tone_by}

both : (b c : Bool) → (b && c) ≡ true → (b ≡ true) × (c ≡ true)
both true true e = (refl, refl)
both true false e = absurd (cc)
both false c e = absurd (cc)

abbrev is_gain : ℕ → Bool
is_gain n = leb n 4000

gain-at : (xs : List ℕ) → list_all is_gain xs ≡ true → (n : ℕ) → get_or xs n 0 ≤ 4000
gain-at [] all n = omega arith
gain-at (x ∷ xs) all zero = leb-true _ _ (both (is_gain x) (list_all is_gain xs) all).0
gain-at (x ∷ xs) all (suc n) = gain-at xs (both (is_gain x) (list_all is_gain xs) all).1 n

pub gain-small : (off : ℕ) → get_or gains off 0 ≤ 4000
unfolding gains
gain-small off = gain-at gains refl off

chosen : (b : Bool) (m : ℕ) → b ≡ false → m ≡ (if b then 50 else m)
chosen false m is = refl
chosen true m is = absurd (cc)

-- where it lies ahead
pub off-is : (x y : ℤ) → pos 0 <ℤ x → count_up_to (10000 * unsigned_abs y / unsigned_abs x) tangents ≡ off_of x y
off-is (pos zero) y above = absurd (omega (arith, ints, above))
off-is (pos (suc n)) y above =
    chosen (int_le (pos (suc n)) (pos 0)) (count_up_to (10000 * unsigned_abs y / unsigned_abs (pos (suc n))) tangents)
    (lt-leb (suc n) 0 (omega arith))
off-is (negsuc n) y above = absurd (omega (arith, ints, above))

abbrev pub same128 : ℤ → ℤ
same128 z = to_z w128 (of_z w128 z)

kept128 : (z : ℤ) → unsigned_abs z ≤ 21990232555520000000000000000 → same128 z ≡ z
kept128 z small = to_z-of_z w128 z (fits_signed_from_abs w128 z (omega (arith, small)))

module _ (p q : ℤ) (p-small : unsigned_abs p ≤ 10995116277760000000000000000) (q-small : unsigned_abs q ≤ 10995116277760000000000000000) where
  pub wide-sum : same128 (same128 p +ℤ same128 q) ≡ p +ℤ q
  wide-sum =
      ap₂ (λ (a b : ℤ). same128 (a +ℤ b)) (kept128 p (omega (arith, p-small))) (kept128 q (omega (arith, q-small)))
      ∙ kept128 (p +ℤ q) (omega (arith, ints, p-small, q-small))

  pub difference-small : unsigned_abs (p -ℤ q) ≤ 21990232555520000000000000000
  difference-small = omega (arith, ints, p-small, q-small)

  pub both-kept : same128 p -ℤ same128 q ≡ p -ℤ q
  both-kept = ap₂ (λ (a b : ℤ). a -ℤ b) (kept128 p (omega (arith, p-small))) (kept128 q (omega (arith, q-small)))

  pub wide-difference : same128 (same128 p -ℤ same128 q) ≡ p -ℤ q
  wide-difference = ap (λ (a : ℤ). same128 a) both-kept ∙ kept128 (p -ℤ q) difference-small

-- what the four squares are at most, by the gain
pub level-small : (a b c d g : ℕ) → a ≤ 10995116277760000000000000000 → b ≤ 10995116277760000000000000000
    → c ≤ 10995116277760000000000000000 → d ≤ 10995116277760000000000000000 → g ≤ 4000
    → (a + b + (c + d)) * g ≤ 175921860444160000000000000000000
level-small a b c d g la lb lc ld lg =
    mul-le (a + b + (c + d)) g 43980465111040000000000000000 4000 (omega (arith, la, lb, lc, ld)) lg

abbrev made : ℕ → ℕ → MeasuredTone
made h l = record { hz = h; level = l }

-- the tone by its parts
pub tone-is : (hz : ℕ) (first later : Sums) (x y : ℤ) (off h l : ℕ) → x ≡ along first later → y ≡ across first later
    → off ≡ off_of x y → h ≡ hz_with hz y off → l ≡ level_of first later off → made h l ≡ tone_by hz first later
tone-is hz first later x y off h l x-is y-is off-at h-is l-is =
    let at : off ≡ off_of (along first later) (across first later) = off-at ∙ ap₂ off_of x-is y-is in
    ap₂ made h-is l-is
    ∙ ap₂ (λ (z : ℤ) (o : ℕ). made (hz_with hz z o) (level_of first later o)) y-is at
