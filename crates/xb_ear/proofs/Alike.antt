-- Where the same is known but for how many windows in a row saw a pair, the same keys follow.
use Rattle.std.proofs.Common.{◌≡◌, ◌∙◌, ℕ, ◌≤◌, Bool, true, false, ◌&&◌, List, [], ◌∷◌, ◌++◌, sym, ap, arith, refl, Option, Some, None, inl, inr, ◌⊎◌}
use Rattle.std.specs.Prelude.{◌||◌, ◌==◌, if◌then◌else◌, nat_le}
use Rattle.std.proofs.lemmas.Bool.{le-leb}
use Rattle.xb_model.specs.declared.key.Tone.{Tone as Pair}
use Rattle.xb_ear.specs.declared.hearing.TheConstants.{GAP_WINDOWS, PART_WINDOWS}
use Rattle.xb_ear.specs.Hearings.{counted}
use Rattle.xb_ear.specs.LongRuns.{is_same_label, needed_of, one}
use Rattle.xb_ear.proofs.Steps.{Known, after, count_after, enough, gives, joins_after, part_after, whole, whole-step}

-- two parts of a key that a hole may follow alike
abbrev pub AreParts : ℕ → ℕ → Type 0
AreParts m n = (m ≡ n) ⊎ ((5 ≤ m) × (5 ≤ n))

parts-same : (m n : ℕ) → AreParts m n → nat_le PART_WINDOWS m ≡ nat_le PART_WINDOWS n
parts-same m n parts = elim parts [
  | inl same ↦ ap (λ (k : ℕ). nat_le PART_WINDOWS k) same
  | inr far ↦ le-leb PART_WINDOWS m (omega (arith, far.0)) ∙ sym (le-leb PART_WINDOWS n (omega (arith, far.1)))
]

parts-on : (m n : ℕ) → AreParts m n → AreParts (counted m) (counted n)
parts-on m n parts = elim parts [
  | inl same ↦ inl (ap counted same)
  | inr far ↦ inr (omega (arith, far.0), omega (arith, far.1))
]

-- the same is known, but for the part
pub record AreAlike (k j : Known) : Type 0 where
  pub seen : k.seen ≡ j.seen
  pub count : k.count ≡ j.count
  pub away : k.away ≡ j.away
  pub part : AreParts k.part j.part
  pub sounding : k.sounding ≡ j.sounding

record StayAlike (k j : Known) (l : Option Pair) : Type 0 where
  alike : AreAlike (after k l) (after j l)
  given : gives k l ≡ gives j l

pub given-same : (k j : Known) (l : Option Pair) → k.sounding ≡ j.sounding → enough k l ≡ enough j l → gives k l ≡ gives j l
given-same k j l sounding same =
    ap (λ (b : Bool). if b then (if is_same_label k.sounding l then [] else one k.sounding) else []) same
    ∙ ap (λ (s : Option Pair). if enough j l then (if is_same_label s l then [] else one s) else []) sounding

alike-step : (k j : Known) (l : Option Pair) → AreAlike k j → StayAlike k j l
alike-step k j None alike =
    let long : nat_le GAP_WINDOWS (counted k.away) ≡ nat_le GAP_WINDOWS (counted j.away) =
    ap (λ (n : ℕ). nat_le GAP_WINDOWS (counted n)) alike.away in
    record {
      alike = record {
        seen =
            ap (λ (b : Bool). if b then None else k.seen) long
            ∙ ap (λ (s : Option Pair). if nat_le GAP_WINDOWS (counted j.away) then None else s) alike.seen;
        count = alike.count;
        away = ap counted alike.away;
        part = alike.part;
        sounding =
            ap (λ (b : Bool). if b then None else k.sounding) long
            ∙ ap (λ (s : Option Pair). if nat_le GAP_WINDOWS (counted j.away) then None else s) alike.sounding;
      };
      given = given-same k j None alike.sounding long;
    }
alike-step k j (Some p) alike =
    record {
      alike = record {
        seen = refl;
        count = count;
        away = refl;
        part = part;
        sounding =
            ap (λ (b : Bool). if b then Some p else k.sounding) long
            ∙ ap (λ (s : Option Pair). if enough j (Some p) then Some p else s) alike.sounding;
      };
      given = given-same k j (Some p) alike.sounding long;
    }
  where
    joined : joins_after k (Some p) ≡ joins_after j (Some p)
    joined =
        ap (λ (s : Option Pair). is_same_label s (Some p) && ((k.away == 0) || nat_le PART_WINDOWS k.part)) alike.seen
        ∙ ap (λ (n : ℕ). is_same_label j.seen (Some p) && ((n == 0) || nat_le PART_WINDOWS k.part)) alike.away
        ∙ ap (λ (b : Bool). is_same_label j.seen (Some p) && ((j.away == 0) || b)) (parts-same k.part j.part alike.part)

    count : count_after k (Some p) ≡ count_after j (Some p)
    count =
        ap (λ (b : Bool). if b then counted k.count else 1) joined
        ∙ ap (λ (n : ℕ). if joins_after j (Some p) then counted n else 1) alike.count

    by : (b c : Bool) → AreParts (if b then (if c then counted k.part else 1) else 1) (if b then (if c then counted j.part else 1) else 1)
    by true true = parts-on k.part j.part alike.part
    by true false = inl refl
    by false c = inl refl

    moved : part_after k (Some p) ≡ (if joins_after j (Some p) then (if j.away == 0 then counted k.part else 1) else 1)
    moved =
        ap (λ (b : Bool). if b then (if k.away == 0 then counted k.part else 1) else 1) joined
        ∙ ap (λ (n : ℕ). if joins_after j (Some p) then (if n == 0 then counted k.part else 1) else 1) alike.away

    part : AreParts (part_after k (Some p)) (part_after j (Some p))
    part = elim (by (joins_after j (Some p)) (j.away == 0)) [
      | inl same ↦ inl (moved ∙ same)
      | inr far ↦ inr (omega (arith, moved, far.0), far.1)
    ]

    long : enough k (Some p) ≡ enough j (Some p)
    long =
        ap (λ (b : Bool). b && nat_le (needed_of (Some p)) (count_after k (Some p)))
        (parts-same (part_after k (Some p)) (part_after j (Some p)) part)
        ∙ ap (λ (n : ℕ). nat_le PART_WINDOWS (part_after j (Some p)) && nat_le (needed_of (Some p)) n) count

pub alike-whole : (ls : List (Option Pair)) (k j : Known) → AreAlike k j → whole k ls ≡ whole j ls
alike-whole [] k j alike = ap (λ (s : Option Pair). one s) alike.sounding
alike-whole (l ∷ ls) k j alike =
    let step = alike-step k j l alike in
    whole-step k l ls ∙ ap (λ (ps : List Pair). gives k l ++ ps) (alike-whole ls (after k l) (after j l) step.alike)
    ∙ ap (λ (ps : List Pair). ps ++ whole (after j l) ls) step.given
    ∙ sym (whole-step j l ls)
