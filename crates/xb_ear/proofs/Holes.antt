-- A hole in a key changes nothing.
use Rattle.std.proofs.Common.{◌≡◌, ◌∙◌, ℕ, zero, suc, ◌+◌, ◌<◌, ◌≤◌, Bool, true, false, ◌&&◌, List, [], ◌∷◌, ◌++◌, replicate, sym, ap, arith, refl, Option, Some, None, inl, inr, ◌⊎◌, eq-eqb, eqb-true}
use Rattle.std.specs.Prelude.{◌||◌, ◌==◌, if◌then◌else◌, nat_le}
use Rattle.std.proofs.lemmas.Bool.{cases_lt, le-leb, leb-true, lt-leb}
use Rattle.xb_model.specs.declared.key.Tone.{Tone as Pair}
use Rattle.xb_ear.specs.declared.hearing.TheConstants.{GAP_WINDOWS, PART_WINDOWS}
use Rattle.xb_ear.specs.Hearings.{counted, silent}
use Rattle.xb_ear.specs.LongRuns.{HolesChangeNothing, is_same_label, needed_of, one}
use Rattle.xb_ear.proofs.Alike.{AreAlike, alike-whole, given-same}
use Rattle.xb_ear.proofs.LongRuns.{of-windows}
use Rattle.xb_ear.proofs.Runs.{label-refl, needed-range, same-goes}
use Rattle.xb_ear.proofs.Steps.{Known, after, after_all, count_after, enough, gives, gives_all, joins_after, known, part_after, whole, whole-append, whole-step}

-- the last windows saw p, at least m of them in a row, or five
record IsRow (p : Pair) (m : ℕ) (k : Known) : Type 0 where
  seen : k.seen ≡ Some p
  away : k.away ≡ 0
  part : (m ≤ k.part) ⊎ (5 ≤ k.part)

first-row : (p : Pair) (k : Known) → IsRow p 1 (after k (Some p))
first-row p k = record { seen = refl; away = refl; part = inl (by (joins_after k (Some p)) (k.away == 0)) }
  where
    by : (b c : Bool) → 1 ≤ (if b then (if c then counted k.part else 1) else 1)
    by true true = omega arith
    by true false = omega arith
    by false c = omega arith

joins-row : (p : Pair) (k : Known) → k.seen ≡ Some p → k.away ≡ 0 → joins_after k (Some p) ≡ true
joins-row p k seen away =
    ap (λ (s : Option Pair). is_same_label s (Some p) && ((k.away == 0) || nat_le PART_WINDOWS k.part)) seen
    ∙ ap (λ (b : Bool). b && ((k.away == 0) || nat_le PART_WINDOWS k.part)) (label-refl (Some p))
    ∙ ap (λ (b : Bool). b || nat_le PART_WINDOWS k.part) (eq-eqb k.away 0 away)

part-row : (p : Pair) (k : Known) → k.seen ≡ Some p → k.away ≡ 0 → part_after k (Some p) ≡ counted k.part
part-row p k seen away =
    ap (λ (b : Bool). if b then (if k.away == 0 then counted k.part else 1) else 1) (joins-row p k seen away)
    ∙ ap (λ (b : Bool). if b then counted k.part else 1) (eq-eqb k.away 0 away)

row-on : (p : Pair) (n m : ℕ) (k : Known) → IsRow p m k → IsRow p (m + n) (after_all k (replicate n (Some p)))
row-on p zero m k row = record {
  seen = row.seen;
  away = row.away;
  part = elim row.part [ inl far ↦ inl (omega (arith, far)) | inr far ↦ inr far ];
}
row-on p (suc n) m k row =
    let part = part-row p k row.seen row.away in
    let next : IsRow p (m + 1) (after k (Some p)) = record {
      seen = refl;
      away = refl;
      part = elim (cases_lt k.part 5) [
        | inl few ↦ elim row.part [
          | inl far ↦ inl (omega (arith, part, few, far))
          | inr far ↦ absurd (omega (arith, few, far))
        ]
        | inr far ↦ inr (omega (arith, part, far))
      ];
    } in
    let rest = row-on p n (m + 1) (after k (Some p)) next in
    record {
      seen = rest.seen;
      away = rest.away;
      part = elim rest.part [ inl far ↦ inl (omega (arith, far)) | inr far ↦ inr far ];
    }

five-row : (p : Pair) (n : ℕ) (k : Known) → 5 ≤ n → IsRow p 5 (after_all k (replicate n (Some p)))
five-row p zero k far = absurd (omega (arith, far))
five-row p (suc n) k far =
    let row = row-on p n 1 (after k (Some p)) (first-row p k) in
    record {
      seen = row.seen;
      away = row.away;
      part = elim row.part [ inl more ↦ inl (omega (arith, more, far)) | inr more ↦ inr more ];
    }

-- in a hole nothing changes but how long it is
record IsHole (k j : Known) (n : ℕ) : Type 0 where
  seen : j.seen ≡ k.seen
  count : j.count ≡ k.count
  part : j.part ≡ k.part
  sounding : j.sounding ≡ k.sounding
  away : j.away ≡ k.away + n

hole-all : (n : ℕ) (k : Known) → k.away + n < 8
    → IsHole k (after_all k (replicate n None)) n × (gives_all k (replicate n None) ≡ [])
hole-all zero k short = (record { seen = refl; count = refl; part = refl; sounding = refl; away = omega arith }, refl)
hole-all (suc n) k short =
    let no : nat_le GAP_WINDOWS (counted k.away) ≡ false = lt-leb GAP_WINDOWS (counted k.away) (omega (arith, short)) in
    let more : counted k.away ≡ k.away + 1 = omega (arith, short) in
    let rest = hole-all n (after k None) (omega (arith, more, short)) in
    let is = rest.0 in
    let none : gives k None ≡ [] =
    ap (λ (b : Bool). if b then (if is_same_label k.sounding None then [] else one k.sounding) else []) no in (
      record {
        seen = is.seen ∙ ap (λ (b : Bool). if b then None else k.seen) no;
        count = is.count;
        part = is.part;
        sounding = is.sounding ∙ ap (λ (b : Bool). if b then None else k.sounding) no;
        away = omega (arith, is.away, more);
      },
      ap (λ (ps : List Pair). ps ++ gives_all (after k None) (replicate n None)) none ∙ rest.1,
    )

-- k comes out of a hole that j has not seen, m windows ago
record IsBehind (p : Pair) (m : ℕ) (k j : Known) : Type 0 where
  joined : joins_after k (Some p) ≡ true
  joined_too : joins_after j (Some p) ≡ true
  row : part_after k (Some p) ≡ m + 1
  far : 5 ≤ part_after j (Some p)
  count : k.count ≡ j.count

counts-alike : (p : Pair) (m : ℕ) (k j : Known) → IsBehind p m k j
    → (count_after k (Some p) ≡ counted k.count) × (count_after j (Some p) ≡ counted k.count)
counts-alike p m k j behind = (
  ap (λ (b : Bool). if b then counted k.count else 1) behind.joined,
  ap (λ (b : Bool). if b then counted j.count else 1) behind.joined_too ∙ ap counted (sym behind.count),
)

-- one window more
behind-on : (p : Pair) (m : ℕ) (k j : Known) → IsBehind p m k j → m + 1 < 5
    → IsBehind p (m + 1) (after k (Some p)) (after j (Some p))
behind-on p m k j behind short =
    let counts = counts-alike p m k j behind in
    record {
      joined = joins-row p (after k (Some p)) refl refl;
      joined_too = joins-row p (after j (Some p)) refl refl;
      row = part-row p (after k (Some p)) refl refl ∙ omega (arith, behind.row, short);
      far = omega (arith, part-row p (after j (Some p)) refl refl, behind.far);
      count = counts.0 ∙ sym counts.1;
    }

-- five windows after the hole all is alike
caught-up : (p : Pair) (m : ℕ) (k j : Known) → IsBehind p m k j → 5 ≤ m + 1
    → (after k (Some p)).sounding ≡ (after j (Some p)).sounding → AreAlike (after k (Some p)) (after j (Some p))
caught-up p m k j behind long sounding =
    let counts = counts-alike p m k j behind in
    record {
      seen = refl;
      count = counts.0 ∙ sym counts.1;
      away = refl;
      part = inr (omega (arith, behind.row, long), behind.far);
      sounding = sounding;
    }

-- what k has still to give that j gave
abbrev due : Option Pair → Pair → List Pair
due sounding p = if is_same_label sounding (Some p) then [] else one sounding

short-part : (p : Pair) (m : ℕ) (k j : Known) → IsBehind p m k j → m + 1 < 5 → enough k (Some p) ≡ false
short-part p m k j behind short =
    ap (λ (b : Bool). b && nat_le (needed_of (Some p)) (count_after k (Some p)))
    (lt-leb PART_WINDOWS (part_after k (Some p)) (omega (arith, behind.row, short)))

long-part : (p : Pair) (m : ℕ) (k j : Known) → IsBehind p m k j → 5 ≤ m + 1
    → enough k (Some p) ≡ nat_le (needed_of (Some p)) (counted k.count)
long-part p m k j behind long =
    ap (λ (b : Bool). b && nat_le (needed_of (Some p)) (count_after k (Some p)))
    (le-leb PART_WINDOWS (part_after k (Some p)) (omega (arith, behind.row, long)))
    ∙ ap (λ (n : ℕ). nat_le (needed_of (Some p)) n) (counts-alike p m k j behind).0

far-part : (p : Pair) (m : ℕ) (k j : Known) → IsBehind p m k j
    → enough j (Some p) ≡ nat_le (needed_of (Some p)) (counted k.count)
far-part p m k j behind =
    ap (λ (b : Bool). b && nat_le (needed_of (Some p)) (count_after j (Some p)))
    (le-leb PART_WINDOWS (part_after j (Some p)) (omega (arith, behind.far)))
    ∙ ap (λ (n : ℕ). nat_le (needed_of (Some p)) n) (counts-alike p m k j behind).1

gives-if : (k : Known) (p : Pair) (b : Bool) → enough k (Some p) ≡ b
    → gives k (Some p) ≡ (if b then due k.sounding p else [])
gives-if k p b e = ap (λ (c : Bool). if c then due k.sounding p else []) e

sounds-if : (k : Known) (p : Pair) (b : Bool) → enough k (Some p) ≡ b
    → (after k (Some p)).sounding ≡ (if b then Some p else k.sounding)
sounds-if k p b e = ap (λ (c : Bool). if c then Some p else k.sounding) e

-- j has begun the key, and k has not
lagging : (p : Pair) (ls : List (Option Pair)) (n m : ℕ) (k j : Known) → IsBehind p m k j
    → needed_of (Some p) ≤ k.count → j.sounding ≡ Some p → m < 5 → 5 ≤ m + n
    → whole k (replicate n (Some p) ++ ls) ≡ due k.sounding p ++ whole j (replicate n (Some p) ++ ls)
lagging p ls zero m k j behind count sounds few long = absurd (omega (arith, few, long))
lagging p ls (suc n) m k j behind count sounds few long =
    whole-step k (Some p) rest ∙ elim (cases_lt (m + 1) 5) [
      | inl short ↦
          let small = short-part p m k j behind short in
          let still : k1.sounding ≡ k.sounding = sounds-if k p false small in
          ap (λ (ps : List Pair). ps ++ whole k1 rest) (gives-if k p false small)
          ∙ lagging p ls n (m + 1) k1 j1 (behind-on p m k j behind short) more goes.0 short (omega (arith, long))
          ∙ ap (λ (s : Option Pair). due s p ++ whole j1 rest) still
          ∙ ap (λ (ps : List Pair). due k.sounding p ++ ps) (sym after_j)
      | inr enough_now ↦
          let yes : enough k (Some p) ≡ true =
          long-part p m k j behind enough_now
          ∙ le-leb (needed_of (Some p)) (counted k.count) (omega (arith, count, (needed-range (Some p)).1)) in
          ap (λ (ps : List Pair). ps ++ whole k1 rest) (gives-if k p true yes)
          ∙ ap (λ (ps : List Pair). due k.sounding p ++ ps)
          (alike-whole rest k1 j1 (caught-up p m k j behind enough_now (sounds-if k p true yes ∙ sym goes.0)) ∙ sym after_j)
    ]
  where
    rest : List (Option Pair)
    rest = replicate n (Some p) ++ ls

    k1 : Known
    k1 = after k (Some p)

    j1 : Known
    j1 = after j (Some p)

    goes : (j1.sounding ≡ Some p) × (gives j (Some p) ≡ [])
    goes = same-goes (Some p) j sounds (Some p) refl

    after_j : whole j (Some p ∷ rest) ≡ whole j1 rest
    after_j = whole-step j (Some p) rest ∙ ap (λ (ps : List Pair). ps ++ whole j1 rest) goes.1

    more : needed_of (Some p) ≤ k1.count
    more = omega (arith, count, (counts-alike p m k j behind).0, (needed-range (Some p)).1)

-- both have begun it, or neither has
level : (p : Pair) (ls : List (Option Pair)) (n m : ℕ) (k j : Known) → IsBehind p m k j → k.sounding ≡ j.sounding
    → m < 5 → 5 ≤ m + n → whole k (replicate n (Some p) ++ ls) ≡ whole j (replicate n (Some p) ++ ls)
level p ls zero m k j behind sounds few long = absurd (omega (arith, few, long))
level p ls (suc n) m k j behind sounds few long =
    whole-step k (Some p) rest ∙ by (nat_le (needed_of (Some p)) (counted k.count)) refl
    (λ short same. level p ls n (m + 1) k1 j1 (behind-on p m k j behind short) same short (omega (arith, long)))
    ∙ sym (whole-step j (Some p) rest)
  where
    rest : List (Option Pair)
    rest = replicate n (Some p) ++ ls

    k1 : Known
    k1 = after k (Some p)

    j1 : Known
    j1 = after j (Some p)

    by : (b : Bool) → nat_le (needed_of (Some p)) (counted k.count) ≡ b
        → (m + 1 < 5 → k1.sounding ≡ j1.sounding → whole k1 rest ≡ whole j1 rest)
        → gives k (Some p) ++ whole k1 rest ≡ gives j (Some p) ++ whole j1 rest
    by b e next = elim (cases_lt (m + 1) 5) [
      | inr enough_now ↦
          let k_is : enough k (Some p) ≡ b = long-part p m k j behind enough_now ∙ e in
          let j_is : enough j (Some p) ≡ b = far-part p m k j behind ∙ e in
          let same : k1.sounding ≡ j1.sounding =
          sounds-if k p b k_is ∙ ap (λ (s : Option Pair). if b then Some p else s) sounds ∙ sym (sounds-if j p b j_is) in
          ap (λ (ps : List Pair). ps ++ whole k1 rest) (given-same k j (Some p) sounds (k_is ∙ sym j_is))
          ∙ ap (λ (ps : List Pair). gives j (Some p) ++ ps)
          (alike-whole rest k1 j1 (caught-up p m k j behind enough_now same))
      | inl short ↦ early b e next short
    ]
      where
        early : (b : Bool) → nat_le (needed_of (Some p)) (counted k.count) ≡ b
            → (m + 1 < 5 → k1.sounding ≡ j1.sounding → whole k1 rest ≡ whole j1 rest) → m + 1 < 5
            → gives k (Some p) ++ whole k1 rest ≡ gives j (Some p) ++ whole j1 rest
        early true e next short =
            let small = short-part p m k j behind short in
            let j_is : enough j (Some p) ≡ true = far-part p m k j behind ∙ e in
            let still : k1.sounding ≡ j.sounding = sounds-if k p false small ∙ sounds in
            let need : needed_of (Some p) ≤ k1.count =
            omega (arith, leb-true _ _ e, (counts-alike p m k j behind).0) in
            ap (λ (ps : List Pair). ps ++ whole k1 rest) (gives-if k p false small)
            ∙ lagging p ls n (m + 1) k1 j1 (behind-on p m k j behind short) need (sounds-if j p true j_is) short (omega (arith, long))
            ∙ ap (λ (s : Option Pair). due s p ++ whole j1 rest) still
            ∙ ap (λ (ps : List Pair). ps ++ whole j1 rest) (sym (gives-if j p true j_is))
        early false e next short =
            let k_is = short-part p m k j behind short in
            let j_is : enough j (Some p) ≡ false = far-part p m k j behind ∙ e in
            let same : k1.sounding ≡ j1.sounding = sounds-if k p false k_is ∙ sounds ∙ sym (sounds-if j p false j_is) in
            ap (λ (ps : List Pair). ps ++ whole k1 rest) (given-same k j (Some p) sounds (k_is ∙ sym j_is))
            ∙ ap (λ (ps : List Pair). gives j (Some p) ++ ps) (next short same)

-- the first window after a hole
hole-behind : (p : Pair) (k j : Known) (n : ℕ) → IsRow p 5 k → IsHole k j n → 0 < n → IsBehind p 0 j k
hole-behind p k j n row hole some =
    record {
      joined = joined;
      joined_too = joins-row p k row.seen row.away;
      row =
          ap (λ (b : Bool). if b then (if j.away == 0 then counted j.part else 1) else 1) joined
          ∙ ap (λ (b : Bool). if b then counted j.part else 1) (off (j.away == 0) refl);
      far = omega (arith, part-row p k row.seen row.away, five);
      count = hole.count;
    }
  where
    five : 5 ≤ k.part
    five = elim row.part [ inl far ↦ far | inr far ↦ far ]

    off : (b : Bool) → (j.away == 0) ≡ b → (j.away == 0) ≡ false
    off true e = absurd (omega (arith, some, hole.away, eqb-true _ _ e))
    off false e = e

    joined : joins_after j (Some p) ≡ true
    joined =
        ap (λ (s : Option Pair). is_same_label s (Some p) && ((j.away == 0) || nat_le PART_WINDOWS j.part)) (hole.seen ∙ row.seen)
        ∙ ap (λ (b : Bool). b && ((j.away == 0) || nat_le PART_WINDOWS j.part)) (label-refl (Some p))
        ∙ ap (λ (b : Bool). b || nat_le PART_WINDOWS j.part) (off (j.away == 0) refl)
        ∙ le-leb PART_WINDOWS j.part (omega (arith, hole.part, five))

pub holes_change_nothing : HolesChangeNothing
holes_change_nothing p before hole after earlier later far short far_after =
    let k0 = after_all (known silent) earlier in
    let tone = replicate before (Some p) in
    let gone = replicate hole None in
    let rest = replicate after (Some p) ++ later in
    let k1 = after_all k0 tone in
    let k2 = after_all k1 gone in
    let row : IsRow p 5 k1 = five-row p before k0 (omega (arith, far)) in
    let over = hole-all hole k1 (omega (arith, row.away, short)) in
    let is : IsHole k1 k2 hole = over.0 in
    let same : whole k2 rest ≡ whole k1 rest = elim (cases_lt 0 hole) [
      | inl some ↦
          level p later after 0 k2 k1 (hole-behind p k1 k2 hole row is some) is.sounding (omega arith) (omega (arith, far_after))
      | inr none ↦ alike-whole rest k2 k1 (record {
        seen = is.seen;
        count = is.count;
        away = omega (arith, is.away, none);
        part = inl is.part;
        sounding = is.sounding;
      })
    ] in
    let with_hole : whole k1 (gone ++ rest) ≡ whole k1 rest =
    whole-append gone rest k1 ∙ ap (λ (ps : List Pair). ps ++ whole k2 rest) over.1 ∙ same in
    let to : (ls : List (Option Pair)) → whole (known silent) (earlier ++ (tone ++ ls))
    ≡ gives_all (known silent) earlier ++ (gives_all k0 tone ++ whole k1 ls) =
    λ ls. whole-append earlier (tone ++ ls) (known silent)
    ∙ ap (λ (ps : List Pair). gives_all (known silent) earlier ++ ps) (whole-append tone ls k0) in
    sym (of-windows (earlier ++ (tone ++ (gone ++ rest)))) ∙ to (gone ++ rest)
    ∙ ap (λ (ps : List Pair). gives_all (known silent) earlier ++ (gives_all k0 tone ++ ps)) with_hole
    ∙ sym (to rest) ∙ of-windows (earlier ++ (tone ++ rest))
