-- Keys of unequal level are no tails, and echoes are.
use Rattle.std.proofs.Common.{◌≡◌, ◌∙◌, ℕ, zero, suc, ◌+◌, ◌-◌, ◌*◌, ◌<◌, ◌≤◌, Bool, true, false, ◌||◌, List, map, length, sym, ap, subst, arith, refl, ℤ, Option, None, inl, inr}
use Rattle.std.specs.Prelude.{if◌then◌else◌, nat_le, nat_lt}
use Rattle.std.specs.List.{range_with_len}
use Rattle.std.proofs.lemmas.Bool.{cases_lt, le-ltb, leb-false, lt-ltb}
use Rattle.std.proofs.lemmas.Simd.{map-map}
use Rattle.xb_model.specs.declared.key.Tone.{Tone as Pair}
use Rattle.xb_ear.specs.declared.sight.Sight.{Sight}
use Rattle.xb_ear.specs.declared.echo_tails.TheConstants.{TAIL_ROW, TAIL_WEAKER, TAIL_WINDOWS}
use Rattle.xb_ear.specs.Ears.{held, held_before, seen_at, sight_at, windows_in}
use Rattle.xb_ear.specs.Echoes.{EchoesAreNoKeys, IsNoLouder, Outdoes, UnequalKeysAreHeard}
use Rattle.xb_ear.specs.LongRuns.{label, pairs_of_runs}
use Rattle.xb_ear.specs.Tails.{counted, is_outdone, outdone_from, strength}
use Rattle.xb_ear.proofs.Fading.{counted-most, kept}
use Rattle.xb_ear.proofs.LongRuns.{keys_are_long_runs}
use Rattle.xb_ear.proofs.Windows.{held-last, map-agrees}

module _ (f : ℕ → Option Sight) (s : Option Sight) where
  abbrev outdone : ℕ → ℕ → ℕ → Bool
  outdone r a n = outdone_from r (map f (range_with_len a n)) s

  -- where no window outdoes it
  none-does : (n a r : ℕ) → ((k : ℕ) → k < a + n → IsNoLouder (f k) s) → outdone r a n ≡ false
  none-does zero a r low = refl
  none-does (suc n) a r low =
      ap (λ (b : Bool). if b then nat_le TAIL_ROW (r + 1) || outdone (r + 1) (a + 1) n else outdone 0 (a + 1) n)
      (le-ltb (TAIL_WEAKER * strength s) (counted s (f a)) (omega (arith, low a (omega arith))))
      ∙ none-does n (a + 1) 0 (λ k below. low k (omega (arith, below)))

  -- one window that does, and the rest
  one-does : (n a r : ℕ) → Outdoes (f a) s → (nat_le TAIL_ROW (r + 1) || outdone (r + 1) (a + 1) n) ≡ true
      → outdone r a (suc n) ≡ true
  one-does n a r loud rest =
      ap (λ (b : Bool). if b then nat_le TAIL_ROW (r + 1) || outdone (r + 1) (a + 1) n else outdone 0 (a + 1) n)
      (lt-ltb (TAIL_WEAKER * strength s) (counted s (f a)) (omega (arith, loud)))
      ∙ rest

  -- a row of windows that do, of which r were before
  row-does : (m n a r : ℕ) → m ≤ n → r ≤ 5 → 6 ≤ r + m → ((d : ℕ) → d < m → Outdoes (f (a + d)) s) → outdone r a n ≡ true
  row-does zero n a r fits few long loud = absurd (omega (arith, few, long))
  row-does (suc m) zero a r fits few long loud = absurd (omega (arith, fits))
  row-does (suc m) (suc n) a r fits few long loud =
      let first : a + 0 ≡ a = omega arith in
      one-does n a r (subst (λ (i : ℕ). Outdoes (f i) s) first (loud 0 (omega arith)))
      (by (nat_le TAIL_ROW (r + 1)) refl
      (λ less. row-does m n (a + 1) (r + 1) (omega (arith, fits)) less (omega (arith, long))
      (λ d below.
      let same : a + suc d ≡ a + 1 + d = omega arith in
      subst (λ (i : ℕ). Outdoes (f i) s) same (loud (suc d) (omega (arith, below))))))
    where
      by : (b : Bool) → nat_le TAIL_ROW (r + 1) ≡ b → (r + 1 ≤ 5 → outdone (r + 1) (a + 1) n ≡ true)
          → (b || outdone (r + 1) (a + 1) n) ≡ true
      by true e later = refl
      by false e later =
          let less = leb-false _ _ e in later (omega (arith, less))

  -- and after others
  row-comes : (p n a r : ℕ) → p + 6 ≤ n → r ≤ 5 → ((d : ℕ) → d < 6 → Outdoes (f (a + p + d)) s) → outdone r a n ≡ true
  row-comes zero n a r fits few loud =
      row-does 6 n a r (omega (arith, fits)) few (omega arith)
      (λ d below.
      let same : a + 0 + d ≡ a + d = omega arith in
      subst (λ (i : ℕ). Outdoes (f i) s) same (loud d below))
  row-comes (suc p) zero a r fits few loud = absurd (omega (arith, fits))
  row-comes (suc p) (suc n) a r fits few loud =
      by (nat_lt (TAIL_WEAKER * strength s) (counted s (f a))) (nat_le TAIL_ROW (r + 1)) refl
      (λ t small. row-comes p n (a + 1) t (omega (arith, fits)) small
      (λ d below.
      let same : a + suc p + d ≡ a + 1 + p + d = omega arith in
      subst (λ (i : ℕ). Outdoes (f i) s) same (loud d below)))
    where
      by : (b c : Bool) → nat_le TAIL_ROW (r + 1) ≡ c → ((t : ℕ) → t ≤ 5 → outdone t (a + 1) n ≡ true)
          → (if b then nat_le TAIL_ROW (r + 1) || outdone (r + 1) (a + 1) n else outdone 0 (a + 1) n) ≡ true
      by false c e later = later 0 (omega arith)
      by true true e later = ap (λ (b : Bool). b || outdone (r + 1) (a + 1) n) e
      by true false e later =
          let less = leb-false _ _ e in
          ap (λ (b : Bool). b || outdone (r + 1) (a + 1) n) e ∙ later (r + 1) (omega (arith, less))

-- silence before the first window outdoes nothing
none-louder : (s : Option Sight) → IsNoLouder None s
none-louder s = omega (arith, counted-most s None)

held-no-louder : (samples : List ℤ) (w k : ℕ) → k < w + 64
    → ((i : ℕ) → i < w → IsNoLouder (sight_at samples i) (sight_at samples w)) → IsNoLouder (held samples k) (sight_at samples w)
held-no-louder samples w k below low = elim (cases_lt k TAIL_WINDOWS) [
  | inl early ↦
      let silent : held samples k ≡ None =
      ap (λ (b : Bool). if b then None else sight_at samples (k - TAIL_WINDOWS)) (lt-ltb k TAIL_WINDOWS early) in
      subst (λ (s : Option Sight). IsNoLouder s (sight_at samples w)) (sym silent) (none-louder (sight_at samples w))
  | inr late ↦
      let is : held samples k ≡ sight_at samples (k - TAIL_WINDOWS) =
      ap (λ (b : Bool). if b then None else sight_at samples (k - TAIL_WINDOWS)) (le-ltb k TAIL_WINDOWS late) in
      subst (λ (s : Option Sight). IsNoLouder s (sight_at samples w)) (sym is)
      (low (k - TAIL_WINDOWS) (omega (arith, below, late)))
]

no-tail : (samples : List ℤ) (w : ℕ) → ((i : ℕ) → i < w → IsNoLouder (sight_at samples i) (sight_at samples w))
    → seen_at samples w ≡ sight_at samples w
no-tail samples w low =
    kept (held_before samples w) (sight_at samples w)
    (none-does (held samples) (sight_at samples w) TAIL_WINDOWS w 0 (λ k below. held-no-louder samples w k (omega (arith, below)) low))

pub unequal_keys_are_heard : UnequalKeysAreHeard
unequal_keys_are_heard samples low =
    let n : ℕ = windows_in (length samples) in
    keys_are_long_runs samples
    ∙ ap (λ (ls : List (Option Pair)). pairs_of_runs ls)
    (map-map (λ (s : Option Sight). label s) (seen_at samples) (range_with_len 0 n)
    ∙ map-agrees (λ (w : ℕ). label (seen_at samples w)) (λ (w : ℕ). label (sight_at samples w)) 0 n
    (λ w below. ap (λ (s : Option Sight). label s)
    (no-tail samples w (λ k earlier. low w k earlier (omega (arith, below))))))

taken : (before : List (Option Sight)) (s : Option Sight) → is_outdone before s ≡ true → (if is_outdone before s then None else s) ≡ None
taken before s is = ap (λ (b : Bool). if b then None else s) is

pub echoes_are_no_keys : EchoesAreNoKeys
echoes_are_no_keys samples k w early late loud =
    taken (held_before samples w) (sight_at samples w)
    (row-comes (held samples) (sight_at samples w) (k + 64 - w) TAIL_WINDOWS w 0 (omega (arith, early)) (omega arith)
    (λ d below.
    let place : w + (k + 64 - w) + d ≡ k + d + 64 = omega (arith, late) in
    subst (λ (s : Option Sight). Outdoes s (sight_at samples w))
    (sym (ap (λ (i : ℕ). held samples i) place ∙ held-last samples (k + d))) (loud d below)))
