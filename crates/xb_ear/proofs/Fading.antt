-- What tails leave of what windows see: silence stays, and so does a key beside others that are as loud.
use Rattle.std.proofs.Common.{◌≡◌, ◌∙◌, ℕ, zero, suc, ◌+◌, ◌-◌, ◌*◌, ◌/◌, ◌<◌, ◌≤◌, Bool, true, false, ◌||◌, List, map, length, sym, ap, subst, arith, refl, ℤ, Option, Some, None, inl, inr, ◌⊎◌}
use Rattle.std.specs.Prelude.{if◌then◌else◌, nat_le, nat_lt}
use Rattle.std.specs.List.{range_with_len}
use Rattle.std.proofs.lemmas.Bool.{cases_lt, false≢true, le-ltb, leb-true, lt-leb, lt-ltb}
use Rattle.xb_model.specs.declared.key.Tone.{Tone as Pair}
use Rattle.xb_ear.specs.declared.sight.Sight.{Sight}
use Rattle.xb_ear.specs.declared.echo_tails.TheConstants.{TAIL_OTHER, TAIL_ROW, TAIL_WEAKER, TAIL_WINDOWS}
use Rattle.xb_ear.specs.Ears.{held, held_before, sight_at, windows_in}
use Rattle.xb_ear.specs.LongRuns.{label}
use Rattle.xb_ear.specs.Hearings.{is_same}
use Rattle.xb_ear.specs.Tails.{counted, is_outdone, outdone_from, strength, without_tail}
use Rattle.xb_ear.proofs.Segments.{sees}
use Rattle.xb_ear.proofs.Standing.{LEAST_STRENGTH, MOST_STRENGTH, Sees, is_low}

-- where nothing stands out nothing is seen
none-kept : (before : List (Option Sight)) (s : Option Sight) → label s ≡ None → label (without_tail before s) ≡ None
none-kept before s none = by (is_outdone before s)
  where
    by : (b : Bool) → label (if b then None else s) ≡ None
    by true = refl
    by false = none

pub sees-silence : (samples : List ℤ) (w : ℕ) → label (sight_at samples w) ≡ None → sees samples w ≡ None
sees-silence samples w none = none-kept (held_before samples w) (sight_at samples w) none

-- one of the next windows holds no more than a key does, or there is none
pub record IsNext (f : ℕ → Option Sight) (end k d : ℕ) : Type 0 where
  pub soon : d ≤ 4
  pub low : (strength (f (k + d)) ≤ MOST_STRENGTH) ⊎ (end ≤ k + d)

-- what a window held counts for no more than it was
pub counted-most : (seen before : Option Sight) → counted seen before ≤ strength before
counted-most seen before = by (is_same seen before)
  where
    by : (b : Bool) → (if b then strength before else strength before / TAIL_OTHER) ≤ strength before
    by true = omega arith
    by false = omega arith

-- where that is so everywhere, nothing outdoes a key
module _ (f : ℕ → Option Sight) (end : ℕ) (s : Option Sight) (strong : LEAST_STRENGTH ≤ strength s)
    (next : (k : ℕ) → (d : ℕ) × IsNext f end k d) where
  none-outdoes : (n k r d : ℕ) → k + n ≡ end → r + d ≤ 4 → (strength (f (k + d)) ≤ MOST_STRENGTH) ⊎ (end ≤ k + d)
      → outdone_from r (map f (range_with_len k n)) s ≡ false
  none-outdoes zero k r d all few low = refl
  none-outdoes (suc n) k r zero all few low = elim low [
    | inr ends ↦ absurd (omega (arith, ends, all))
    | inl less ↦
        let here : k + 0 ≡ k = omega arith in
        let this : strength (f k) ≤ MOST_STRENGTH = subst (λ (i : ℕ). strength (f i) ≤ MOST_STRENGTH) here less in
        let soon = next (k + 1) in
        ap (λ (b : Bool). if b then nat_le TAIL_ROW (r + 1) || outdone_from (r + 1) (map f (range_with_len (k + 1) n)) s
        else outdone_from 0 (map f (range_with_len (k + 1) n)) s)
        (le-ltb (TAIL_WEAKER * strength s) (counted s (f k)) (omega (arith, counted-most s (f k), this, strong)))
        ∙ none-outdoes n (k + 1) 0 soon.0 (omega (arith, all)) (omega (arith, soon.1.soon)) soon.1.low
  ]
  none-outdoes (suc n) k r (suc d) all few low =
      let place : k + suc d ≡ k + 1 + d = omega arith in
      let same : (strength (f (k + 1 + d)) ≤ MOST_STRENGTH) ⊎ (end ≤ k + 1 + d) =
      subst (λ (i : ℕ). (strength (f i) ≤ MOST_STRENGTH) ⊎ (end ≤ i)) place low in
      by (nat_lt (TAIL_WEAKER * strength s) (counted s (f k)))
      (none-outdoes n (k + 1) (r + 1) d (omega (arith, all)) (omega (arith, few)) same)
      (none-outdoes n (k + 1) 0 d (omega (arith, all)) (omega (arith, few)) same)
    where
      by : (b : Bool) → outdone_from (r + 1) (map f (range_with_len (k + 1) n)) s ≡ false
          → outdone_from 0 (map f (range_with_len (k + 1) n)) s ≡ false
          → (if b then nat_le TAIL_ROW (r + 1) || outdone_from (r + 1) (map f (range_with_len (k + 1) n)) s
          else outdone_from 0 (map f (range_with_len (k + 1) n)) s) ≡ false
      by true longer new =
          ap (λ (b : Bool). b || outdone_from (r + 1) (map f (range_with_len (k + 1) n)) s)
          (lt-leb TAIL_ROW (r + 1) (omega (arith, few)))
          ∙ longer
      by false longer new = new

strength-low : (s : Option Sight) → is_low s ≡ true → strength s ≤ MOST_STRENGTH
strength-low None low = omega arith
strength-low (Some s) low = leb-true _ _ low

-- after each window, one of the next four holds no more than a key does, or there is none
pub record IsSoonLow (samples : List ℤ) (w d : ℕ) : Type 0 where
  pub soon : d ≤ 4
  pub low : (is_low (sight_at samples (w + d)) ≡ true) ⊎ (windows_in (length samples) ≤ w + d)

abbrev pub AreLow : List ℤ → Type 0
AreLow samples = (w : ℕ) → w < windows_in (length samples) → (d : ℕ) × IsSoonLow samples w d

held-next : (samples : List ℤ) → AreLow samples → (w : ℕ) → w < windows_in (length samples) → (k : ℕ)
    → (d : ℕ) × IsNext (held samples) (w + TAIL_WINDOWS) k d
held-next samples low w below k = elim (cases_lt k TAIL_WINDOWS) [
  | inl early ↦
      let none : nat_lt (k + 0) TAIL_WINDOWS ≡ true = lt-ltb (k + 0) TAIL_WINDOWS (omega (arith, early)) in
      let silent : strength (held samples (k + 0)) ≡ 0 =
      ap (λ (b : Bool). strength (if b then None else sight_at samples (k + 0 - TAIL_WINDOWS))) none in
      (0, record { soon = omega arith; low = inl (omega (arith, silent)) })
  | inr late ↦ elim (cases_lt (k - TAIL_WINDOWS) (windows_in (length samples))) [
    | inr past ↦ (0, record { soon = omega arith; low = inr (omega (arith, past, late, below)) })
    | inl there ↦
        let soon = low (k - TAIL_WINDOWS) there in
        let d : ℕ = soon.0 in
        let far : nat_lt (k + d) TAIL_WINDOWS ≡ false = le-ltb (k + d) TAIL_WINDOWS (omega (arith, late)) in
        let place : k + d - TAIL_WINDOWS ≡ k - TAIL_WINDOWS + d = omega (arith, late) in
        let is : strength (held samples (k + d)) ≡ strength (sight_at samples (k - TAIL_WINDOWS + d)) =
        ap (λ (b : Bool). strength (if b then None else sight_at samples (k + d - TAIL_WINDOWS))) far
        ∙ ap (λ (i : ℕ). strength (sight_at samples i)) place in (
          d,
          record {
            soon = soon.1.soon;
            low = elim soon.1.low [
              | inl less ↦
                  inl (subst (λ (h : ℕ). h ≤ MOST_STRENGTH) (sym is)
                  (strength-low (sight_at samples (k - TAIL_WINDOWS + d)) less))
              | inr ends ↦ inr (omega (arith, ends, late, below))
            ];
          },
        )
  ]
]

pub kept : (before : List (Option Sight)) (s : Option Sight) → is_outdone before s ≡ false → without_tail before s ≡ s
kept before s = by (is_outdone before s)
  where
    by : (b : Bool) → b ≡ false → (if b then None else s) ≡ s
    by true not = absurd (false≢true (sym not))
    by false not = refl

-- a key that stands out is seen
pub sees-key : (samples : List ℤ) → AreLow samples → (p : Pair) (w : ℕ) → 20 * w + 80 ≤ length samples
    → Sees (Some p) (sight_at samples w) → sees samples w ≡ Some p
sees-key samples low p w fits sees = by (sight_at samples w) refl sees
  where
    by : (s : Option Sight) → sight_at samples w ≡ s → Sees (Some p) s
        → label (without_tail (held_before samples w) (sight_at samples w)) ≡ Some p
    by None is none = absurd (cc)
    by (Some s) is shows =
        let strong : LEAST_STRENGTH ≤ s.low + s.high = leb-true _ _ shows.strong in
        let below : w < windows_in (length samples) = omega (arith, fits) in
        let next = held-next samples low w below in
        let first = next w in
        let no : is_outdone (held_before samples w) (Some s) ≡ false =
        none-outdoes (held samples) (w + TAIL_WINDOWS) (Some s) strong next TAIL_WINDOWS w 0 first.0 refl
        (omega (arith, first.1.soon)) first.1.low in
        ap (λ (o : Option Sight). label (without_tail (held_before samples w) o)) is
        ∙ ap (λ (o : Option Sight). label o) (kept (held_before samples w) (Some s) no)
        ∙ shows.pair
