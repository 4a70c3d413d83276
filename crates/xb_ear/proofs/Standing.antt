-- What a window surely sees, by bounds on its levels.
use Rattle.std.proofs.Common.{◌≡◌, ◌∙◌, ℕ, ◌+◌, ◌-◌, ◌*◌, ◌/◌, ◌<◌, ◌≤◌, Bool, true, false, ◌&&◌, ◌||◌, List, [], ◌∷◌, length, min, max, ap, subst, arith, refl, ℤ, Option, Some, None, eqb, eqb-true, inl, inr, ◌⊎◌}
use Rattle.std.specs.Prelude.{if◌then◌else◌, nat_le, nat_lt}
use Rattle.std.specs.List.{AllByRecursion, list_all, list_any}
use Rattle.std.proofs.lemmas.Bool.{false≢true, le-leb, leb-true, lt-leb, ltb-true}
use Rattle.xb_model.specs.declared.key.Tone.{Tone as Pair}
use Rattle.xb_model.specs.MfPairs.{pair}
use Rattle.xb_ear.specs.declared.levels.Levels.{Levels}
use Rattle.xb_ear.specs.declared.sight.Sight.{Sight}
use Rattle.xb_ear.specs.declared.sight.TheConstants.{LEAST_LEVEL, TWIST, CLEAR, SHARE_OF, SHARE, STEADY}
use Rattle.xb_ear.specs.Disturbed.{IsNear}
use Rattle.xb_ear.specs.Hearings.{is_same_pair}
use Rattle.xb_ear.specs.LongRuns.{label}
use Rattle.xb_ear.specs.Levels.{levels_of}
use Rattle.xb_ear.specs.Pairs.{all_levels, first_pair, is_pair, level_at, mf_pairs, seen, sight, stand_out}
use Rattle.xb_ear.proofs.Bounds.{IsBelow, at-below, below-uppers, lowers, lowers-below, uppers}

-- a window holds so much of the pair of a key, at least; and of any pair so much at most
abbrev pub LEAST_STRENGTH : ℕ
LEAST_STRENGTH = 139000000

abbrev pub MOST_STRENGTH : ℕ
MOST_STRENGTH = 417000000

-- what the other four frequencies hold
abbrev pub rest_of : Levels → Pair → ℕ
rest_of levels q = all_levels levels - (level_at levels q.low + level_at levels q.high)

-- two levels surely stand out, by their bounds and one of the others, where what lies beside is steady
abbrev pub surely_clear : ℕ → ℕ → ℕ → ℕ → ℕ → Bool
surely_clear l h ul uh others =
    nat_le LEAST_LEVEL (min l h) && nat_le (max ul uh) (TWIST * min l h) && nat_le (CLEAR * others) (min l h)

-- and where it is not
abbrev pub surely : ℕ → ℕ → ℕ → ℕ → ℕ → ℕ → Bool
surely l h ul uh others power = surely_clear l h ul uh others && nat_le (SHARE * power) (SHARE_OF * (l + h))

-- a pair surely does not: one of its tones is weak, or the other is out of all proportion, or the rest drowns it
abbrev pub is_weak : Levels → Pair → Bool
is_weak u q = nat_lt (min (level_at u q.low) (level_at u q.high)) LEAST_LEVEL

abbrev pub is_twisted : Levels → Levels → Pair → Bool
is_twisted l u q =
    nat_lt (TWIST * min (level_at u q.low) (level_at u q.high)) (max (level_at l q.low) (level_at l q.high))

abbrev pub is_drowned : Levels → Levels → Pair → Bool
is_drowned l u q = nat_lt (min (level_at u q.low) (level_at u q.high)) (CLEAR * rest_of l q)

abbrev pub is_out : Levels → Levels → Pair → Bool
is_out l u q = is_weak u q || is_twisted l u q || is_drowned l u q

abbrev pub shows : Levels → Levels → Pair → Bool
shows l u p =
    surely (level_at l p.low) (level_at l p.high) (level_at u p.low) (level_at u p.high) (rest_of u p) u.power
    && list_all (λ q. is_same_pair q p || is_out l u q) mf_pairs
    && nat_le LEAST_STRENGTH (level_at l p.low + level_at l p.high)
    && nat_le (level_at u p.low + level_at u p.high) MOST_STRENGTH

pub and-both : (b c : Bool) → (b && c) ≡ true → (b ≡ true) × (c ≡ true)
and-both true c e = (refl, e)
and-both false c e = absurd (false≢true e)

and-true : (b c : Bool) → b ≡ true → c ≡ true → (b && c) ≡ true
and-true true c e f = f
and-true false c e f = absurd (false≢true e)

and-false : (b : Bool) → (b && false) ≡ false
and-false true = refl
and-false false = refl

-- the two hold most of the power, or the rest is steady
abbrev is_most_or_steady : ℕ → ℕ → ℕ → ℕ → ℕ → Bool
is_most_or_steady k x y sum p = nat_le (SHARE * p) (SHARE_OF * (x + y)) || nat_le ((p - sum) / STEADY) k

stands : (k l h ul uh others x y sum p : ℕ) → surely_clear l h ul uh others ≡ true
    → l ≤ x → x ≤ ul → h ≤ y → y ≤ uh → sum - (x + y) ≤ others → is_most_or_steady k x y sum p ≡ true
    → stand_out k x y sum p ≡ true
stands k l h ul uh others x y sum p is lx xu hy yu rest beside =
    let s1 = and-both _ _ is in
    let s2 = and-both _ _ s1.0 in
    let loud : LEAST_LEVEL ≤ min l h = leb-true _ _ s2.0 in
    let even : max ul uh ≤ TWIST * min l h = leb-true _ _ s2.1 in
    let clear : CLEAR * others ≤ min l h = leb-true _ _ s1.1 in
    let more : min l h ≤ min x y = omega (arith, lx, hy) in
    let top : max x y ≤ max ul uh = omega (arith, xu, yu) in
    and-true _ _
    (and-true _ _
    (and-true _ _ (le-leb LEAST_LEVEL (min x y) (omega (arith, loud, more)))
    (le-leb (max x y) (TWIST * min x y) (omega (arith, even, more, top))))
    (le-leb (CLEAR * (sum - (x + y))) (min x y) (omega (arith, clear, more, rest))))
    beside

surely-stands : (k l h ul uh others power x y sum p : ℕ) → surely l h ul uh others power ≡ true
    → l ≤ x → x ≤ ul → h ≤ y → y ≤ uh → sum - (x + y) ≤ others → p ≤ power → stand_out k x y sum p ≡ true
surely-stands k l h ul uh others power x y sum p is lx xu hy yu rest powers =
    let both = and-both (surely_clear l h ul uh others) (nat_le (SHARE * power) (SHARE_OF * (l + h))) is in
    let most : SHARE * power ≤ SHARE_OF * (l + h) = leb-true _ _ both.1 in
    stands k l h ul uh others x y sum p both.0 lx xu hy yu rest
    (ap (λ (b : Bool). b || nat_le ((p - sum) / STEADY) k)
    (le-leb (SHARE * p) (SHARE_OF * (x + y)) (omega (arith, most, powers, lx, hy))))

or-true : (b c : Bool) → c ≡ true → (b || c) ≡ true
or-true true c e = refl
or-true false c e = e

steady-stands : (k l h ul uh others x y sum p : ℕ) → surely_clear l h ul uh others ≡ true
    → l ≤ x → x ≤ ul → h ≤ y → y ≤ uh → sum - (x + y) ≤ others → (p - sum) / STEADY ≤ k → stand_out k x y sum p ≡ true
steady-stands k l h ul uh others x y sum p is lx xu hy yu rest steady =
    stands k l h ul uh others x y sum p is lx xu hy yu rest
    (or-true (nat_le (SHARE * p) (SHARE_OF * (x + y))) (nat_le ((p - sum) / STEADY) k) (le-leb ((p - sum) / STEADY) k steady))

weak-fails : (k x y sum p : ℕ) → min x y < LEAST_LEVEL → stand_out k x y sum p ≡ false
weak-fails k x y sum p weak =
    ap (λ (b : Bool). b && nat_le (max x y) (TWIST * min x y) && nat_le (CLEAR * (sum - (x + y))) (min x y)
    && is_most_or_steady k x y sum p) (lt-leb LEAST_LEVEL (min x y) weak)

twisted-fails : (k x y sum p : ℕ) → TWIST * min x y < max x y → stand_out k x y sum p ≡ false
twisted-fails k x y sum p twisted =
    ap (λ (b : Bool). nat_le LEAST_LEVEL (min x y) && b && nat_le (CLEAR * (sum - (x + y))) (min x y)
    && is_most_or_steady k x y sum p) (lt-leb (max x y) (TWIST * min x y) twisted)
    ∙ ap (λ (b : Bool). b && nat_le (CLEAR * (sum - (x + y))) (min x y) && is_most_or_steady k x y sum p)
    (and-false (nat_le LEAST_LEVEL (min x y)))

drowned-fails : (k x y sum p : ℕ) → min x y < CLEAR * (sum - (x + y)) → stand_out k x y sum p ≡ false
drowned-fails k x y sum p drowned =
    ap (λ (b : Bool). nat_le LEAST_LEVEL (min x y) && nat_le (max x y) (TWIST * min x y) && b
    && is_most_or_steady k x y sum p) (lt-leb (CLEAR * (sum - (x + y))) (min x y) drowned)
    ∙ ap (λ (b : Bool). b && is_most_or_steady k x y sum p)
    (and-false (nat_le LEAST_LEVEL (min x y) && nat_le (max x y) (TWIST * min x y)))

pub same-pair : (q p : Pair) → is_same_pair q p ≡ true → q ≡ p
same-pair q p is =
    let parts = and-both (eqb q.low p.low) (eqb q.high p.high) is in
    ap (λ (a : ℕ). pair a q.high) (eqb-true _ _ parts.0) ∙ ap (λ (b : ℕ). pair p.low b) (eqb-true _ _ parts.1)

pub or-cases : (b c : Bool) → (b || c) ≡ true → (b ≡ true) ⊎ (c ≡ true)
or-cases true c e = inl refl
or-cases false c e = inr e

weak-pair : (k : ℕ) (levels u : Levels) → IsBelow levels u → (q : Pair) → is_weak u q ≡ true
    → is_pair k levels q ≡ false
weak-pair k levels u below q weak =
    let a = at-below levels u below q.low in
    let b = at-below levels u below q.high in
    let small : min (level_at u q.low) (level_at u q.high) < LEAST_LEVEL = ltb-true _ _ weak in
    weak-fails k (level_at levels q.low) (level_at levels q.high) (all_levels levels) levels.power (omega (arith, a, b, small))

-- what the other four hold grows with the levels
abbrev IsRestBelow : Levels → Levels → Pair → Type 0
IsRestBelow a b q = rest_of a q ≤ rest_of b q

rests-below : (a b : Levels) → IsBelow a b → AllByRecursion (IsRestBelow a b) mf_pairs
rests-below a b below = (
  omega arith,
  (
    omega arith,
    (
      omega arith,
      (
        omega arith,
        (
          omega arith,
          (
            omega arith,
            (
              omega arith,
              (
                omega arith,
                (omega arith, (omega arith, (omega arith, (omega arith, (omega arith, (omega arith, (omega arith, tt))))))),
              ),
            ),
          ),
        ),
      ),
    ),
  ),
)

-- a fact of all pairs at one of them
at-pair : (P : Pair → Type 0) (p : Pair) (ps : List Pair) → AllByRecursion P ps
    → list_any (λ q. is_same_pair q p) ps ≡ true → P p
at-pair P p [] all any = absurd (false≢true any)
at-pair P p (q ∷ ps) all any = elim (or-cases (is_same_pair q p) (list_any (λ q. is_same_pair q p) ps) any) [
  | inl same ↦ subst P (same-pair q p same) all.0
  | inr later ↦ at-pair P p ps all.1 later
]

out-pair : (k : ℕ) (levels l u : Levels) → IsBelow l levels → IsBelow levels u → (q : Pair) → IsRestBelow l levels q
    → is_out l u q ≡ true → is_pair k levels q ≡ false
out-pair k levels l u above below q rest out =
    let x : ℕ = level_at levels q.low in
    let y : ℕ = level_at levels q.high in
    let al : level_at l q.low ≤ x = at-below l levels above q.low in
    let ah : level_at l q.high ≤ y = at-below l levels above q.high in
    let bl : x ≤ level_at u q.low = at-below levels u below q.low in
    let bh : y ≤ level_at u q.high = at-below levels u below q.high in
    elim (or-cases (is_weak u q || is_twisted l u q) (is_drowned l u q) out) [
      | inl other ↦ elim (or-cases (is_weak u q) (is_twisted l u q) other) [
        | inl weak ↦ weak-pair k levels u below q weak
        | inr twisted ↦
            let is : TWIST * min (level_at u q.low) (level_at u q.high) < max (level_at l q.low) (level_at l q.high) =
            ltb-true _ _ twisted in
            twisted-fails k x y (all_levels levels) levels.power (omega (arith, is, al, ah, bl, bh))
      ]
      | inr drowned ↦
          let is : min (level_at u q.low) (level_at u q.high) < CLEAR * rest_of l q = ltb-true _ _ drowned in
          drowned-fails k x y (all_levels levels) levels.power (omega (arith, is, rest, bl, bh))
    ]

-- all that levels show is weak
pub none-shown : (k : ℕ) (levels u : Levels) → IsBelow levels u → (ps : List Pair) → list_all (is_weak u) ps ≡ true
    → first_pair k levels ps ≡ None
none-shown k levels u below [] all = refl
none-shown k levels u below (q ∷ ps) all =
    let both = and-both (is_weak u q) (list_all (is_weak u) ps) all in
    ap (λ (b : Bool). if b then Some (sight levels q) else first_pair k levels ps) (weak-pair k levels u below q both.0)
    ∙ none-shown k levels u below ps both.1

-- all but one pair are out of the question, and that one stands out
one-shown : (k : ℕ) (levels l u : Levels) (p : Pair) → IsBelow l levels → IsBelow levels u → is_pair k levels p ≡ true
    → (ps : List Pair) → AllByRecursion (IsRestBelow l levels) ps
    → list_all (λ q. is_same_pair q p || is_out l u q) ps ≡ true → list_any (λ q. is_same_pair q p) ps ≡ true
    → label (first_pair k levels ps) ≡ Some p
one-shown k levels l u p above below is [] rests all any = absurd (false≢true any)
one-shown k levels l u p above below is (q ∷ ps) rests all any =
    by (is_same_pair q p) refl (λ a b. one-shown k levels l u p above below is ps rests.1 a b)
  where
    both : (is_same_pair q p || is_out l u q ≡ true) × (list_all (λ q. is_same_pair q p || is_out l u q) ps ≡ true)
    both = and-both (is_same_pair q p || is_out l u q) (list_all (λ q. is_same_pair q p || is_out l u q) ps) all

    by : (b : Bool) → is_same_pair q p ≡ b
        → (list_all (λ q. is_same_pair q p || is_out l u q) ps ≡ true → list_any (λ q. is_same_pair q p) ps ≡ true
        → label (first_pair k levels ps) ≡ Some p)
        → label (first_pair k levels (q ∷ ps)) ≡ Some p
    by true e rest =
        let same : q ≡ p = same-pair q p e in
        let shown : is_pair k levels q ≡ true = ap (λ (r : Pair). is_pair k levels r) same ∙ is in
        ap (λ (b : Bool). label (if b then Some (sight levels q) else first_pair k levels ps)) shown
        ∙ ap (λ (r : Pair). Some r) same
    by false e rest =
        let out : is_out l u q ≡ true = subst (λ (b : Bool). b || is_out l u q ≡ true) e both.0 in
        let later : list_any (λ q. is_same_pair q p) ps ≡ true =
        subst (λ (b : Bool). b || list_any (λ q. is_same_pair q p) ps ≡ true) e any in
        ap (λ (b : Bool). label (if b then Some (sight levels q) else first_pair k levels ps))
        (out-pair k levels l u above below q rests.0 out)
        ∙ rest both.1 later

-- what is seen holds as much as the pair of a key does; of nothing there is no such question
abbrev pub is_strong : Option Sight → Bool
is_strong None = true
is_strong (Some s) = nat_le LEAST_STRENGTH (s.low + s.high)

first-strong : (k : ℕ) (levels : Levels) (p : Pair) → LEAST_STRENGTH ≤ level_at levels p.low + level_at levels p.high
    → (ps : List Pair) → label (first_pair k levels ps) ≡ Some p → is_strong (first_pair k levels ps) ≡ true
first-strong k levels p strong [] is = refl
first-strong k levels p strong (q ∷ ps) is = by (is_pair k levels q) is (λ e. first-strong k levels p strong ps e)
  where
    by : (b : Bool) → label (if b then Some (sight levels q) else first_pair k levels ps) ≡ Some p
        → (label (first_pair k levels ps) ≡ Some p → is_strong (first_pair k levels ps) ≡ true)
        → is_strong (if b then Some (sight levels q) else first_pair k levels ps) ≡ true
    by true e rest =
        let same : q ≡ p = cc in
        ap (λ (r : Pair). nat_le LEAST_STRENGTH (level_at levels r.low + level_at levels r.high)) same
        ∙ le-leb LEAST_STRENGTH (level_at levels p.low + level_at levels p.high) strong
    by false e rest = rest e

-- nor more than it does by far
abbrev pub is_low : Option Sight → Bool
is_low None = true
is_low (Some s) = nat_le (s.low + s.high) MOST_STRENGTH

first-low : (k : ℕ) (levels : Levels) (p : Pair) → level_at levels p.low + level_at levels p.high ≤ MOST_STRENGTH
    → (ps : List Pair) → label (first_pair k levels ps) ≡ Some p → is_low (first_pair k levels ps) ≡ true
first-low k levels p low [] is = refl
first-low k levels p low (q ∷ ps) is = by (is_pair k levels q) is (λ e. first-low k levels p low ps e)
  where
    by : (b : Bool) → label (if b then Some (sight levels q) else first_pair k levels ps) ≡ Some p
        → (label (first_pair k levels ps) ≡ Some p → is_low (first_pair k levels ps) ≡ true)
        → is_low (if b then Some (sight levels q) else first_pair k levels ps) ≡ true
    by true e rest =
        let same : q ≡ p = cc in
        ap (λ (r : Pair). nat_le (level_at levels r.low + level_at levels r.high) MOST_STRENGTH) same
        ∙ le-leb (level_at levels p.low + level_at levels p.high) MOST_STRENGTH low
    by false e rest = rest e

none-low : (s : Option Sight) → label s ≡ None → is_low s ≡ true
none-low None is = refl
none-low (Some s) is = absurd (cc)

pub none-strong : (s : Option Sight) → label s ≡ None → is_strong s ≡ true
none-strong None is = refl
none-strong (Some s) is = absurd (cc)

pub record Sees (what : Option Pair) (s : Option Sight) : Type 0 where
  pub pair : label s ≡ what
  pub strong : is_strong s ≡ true
  pub low : is_low s ≡ true

-- a window whose levels are nowhere greater than weak ones sees nothing
pub sees-none-below : (k : ℕ) (u : Levels) (ys : List ℤ) → IsBelow (levels_of ys) u → list_all (is_weak u) mf_pairs ≡ true
    → Sees None (seen k ys)
sees-none-below k u ys below weak =
    let none : label (seen k ys) ≡ None =
    ap (λ (s : Option Sight). label s) (none-shown k (levels_of ys) u below mf_pairs weak) in
    record { pair = none; strong = none-strong (seen k ys) none; low = none-low (seen k ys) none }

-- and one in which a pair stands out, and surely no other, sees that pair
sees-pair-standing : (k : ℕ) (l u : Levels) (ys : List ℤ) → IsBelow l (levels_of ys) → IsBelow (levels_of ys) u
    → (p : Pair) → list_any (λ q. is_same_pair q p) mf_pairs ≡ true → is_pair k (levels_of ys) p ≡ true
    → list_all (λ q. is_same_pair q p || is_out l u q) mf_pairs ≡ true
    → LEAST_STRENGTH ≤ level_at l p.low + level_at l p.high → level_at u p.low + level_at u p.high ≤ MOST_STRENGTH
    → Sees (Some p) (seen k ys)
sees-pair-standing k l u ys above below p known stand others enough least =
    let v = levels_of ys in
    let low = at-below l v above p.low in
    let high = at-below l v above p.high in
    let low-most = at-below v u below p.low in
    let high-most = at-below v u below p.high in
    let pair : label (seen k ys) ≡ Some p =
    one-shown k v l u p above below stand mf_pairs (rests-below l v above) others known in
    let strong : LEAST_STRENGTH ≤ level_at v p.low + level_at v p.high = omega (arith, enough, low, high) in
    let most : level_at v p.low + level_at v p.high ≤ MOST_STRENGTH = omega (arith, least, low-most, high-most) in
    record { pair = pair; strong = first-strong k v p strong mf_pairs pair; low = first-low k v p most mf_pairs pair }

-- as one whose levels lie between some that surely show the pair
pub sees-pair-between : (k : ℕ) (l u : Levels) (ys : List ℤ) → IsBelow l (levels_of ys) → IsBelow (levels_of ys) u
    → (p : Pair) → list_any (λ q. is_same_pair q p) mf_pairs ≡ true → shows l u p ≡ true → Sees (Some p) (seen k ys)
sees-pair-between k l u ys above below p known is =
    let v = levels_of ys in
    let bounds = and-both _ _ is in
    let parts = and-both _ _ bounds.0 in
    let both = and-both (surely (level_at l p.low) (level_at l p.high) (level_at u p.low) (level_at u p.high) (rest_of u p) u.power)
    (list_all (λ q. is_same_pair q p || is_out l u q) mf_pairs) parts.0 in
    let stand : is_pair k v p ≡ true =
    surely-stands k (level_at l p.low) (level_at l p.high) (level_at u p.low) (level_at u p.high) (rest_of u p) u.power
    (level_at v p.low) (level_at v p.high) (all_levels v) v.power both.0 (at-below l v above p.low)
    (at-below v u below p.low) (at-below l v above p.high) (at-below v u below p.high)
    (at-pair (IsRestBelow v u) p mf_pairs (rests-below v u below) known) below.all in
    sees-pair-standing k l u ys above below p known stand both.1 (leb-true _ _ parts.1) (leb-true _ _ bounds.1)

-- a pair that shows by its levels, whatever the power is
abbrev pub shows_clear : Levels → Levels → Pair → Bool
shows_clear l u p =
    surely_clear (level_at l p.low) (level_at l p.high) (level_at u p.low) (level_at u p.high) (rest_of u p)
    && list_all (λ q. is_same_pair q p || is_out l u q) mf_pairs
    && nat_le LEAST_STRENGTH (level_at l p.low + level_at l p.high)
    && nat_le (level_at u p.low + level_at u p.high) MOST_STRENGTH

-- is seen where what lies beside is steady
pub sees-pair-steady : (k : ℕ) (l u : Levels) (ys : List ℤ) → IsBelow l (levels_of ys) → IsBelow (levels_of ys) u
    → ((levels_of ys).power - all_levels (levels_of ys)) / STEADY ≤ k
    → (p : Pair) → list_any (λ q. is_same_pair q p) mf_pairs ≡ true → shows_clear l u p ≡ true → Sees (Some p) (seen k ys)
sees-pair-steady k l u ys above below steady p known is =
    let v = levels_of ys in
    let bounds = and-both _ _ is in
    let parts = and-both _ _ bounds.0 in
    let both = and-both (surely_clear (level_at l p.low) (level_at l p.high) (level_at u p.low) (level_at u p.high) (rest_of u p))
    (list_all (λ q. is_same_pair q p || is_out l u q) mf_pairs) parts.0 in
    let stand : is_pair k v p ≡ true =
    steady-stands k (level_at l p.low) (level_at l p.high) (level_at u p.low) (level_at u p.high) (rest_of u p)
    (level_at v p.low) (level_at v p.high) (all_levels v) v.power both.0 (at-below l v above p.low)
    (at-below v u below p.low) (at-below l v above p.high) (at-below v u below p.high)
    (at-pair (IsRestBelow v u) p mf_pairs (rests-below v u below) known) steady in
    sees-pair-standing k l u ys above below p known stand both.1 (leb-true _ _ parts.1) (leb-true _ _ bounds.1)

module _ (k n : ℕ) (clean ys : List ℤ) (long : length clean ≡ 80) (near : IsNear n clean ys) where
  -- so it is of a window that is near a clean one
  pub sees-none : list_all (is_weak (uppers n clean)) mf_pairs ≡ true → Sees None (seen k ys)
  sees-none weak = sees-none-below k (uppers n clean) ys (below-uppers n clean ys long near) weak

  pub sees-pair : (p : Pair) → list_any (λ q. is_same_pair q p) mf_pairs ≡ true
      → shows (lowers n clean) (uppers n clean) p ≡ true → Sees (Some p) (seen k ys)
  sees-pair p known is =
      sees-pair-between k (lowers n clean) (uppers n clean) ys (lowers-below n clean ys long near)
      (below-uppers n clean ys long near) p known is
