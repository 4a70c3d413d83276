-- Laws of lists with a value for each line.
use Rattle.std.proofs.Common.{◌≡◌, ℕ, ◌+◌, ◌<◌, ◌≤◌, false, eqb, List, [], ◌∷◌, map, get_or, set, length, drop, sym, ap, ◌∙◌, subst, ⊎_elim, eqb-true, get_or-set_same, get_or-set_other, arith}
use Rattle.std.specs.List.{All, enumerate_from}
use Rattle.std.proofs.lemmas.Bool.{cases_Bool, eqb-false}
use Rattle.std.proofs.lemmas.List.{drop_more, length-drop}
use Rattle.std.proofs.lemmas.List.FromFn.{length-enumerate_from}
use Rattle.xb_model.specs.declared.line.TheConstants.{LINES}
use Rattle.xb_model.specs.LineValues.{AreValues, IsLeft}

-- where all values are the same one
pub AreValues-same : {T : Type 0} (values : List T) (value : T) → length values ≡ LINES → All (λ v. v ≡ value) values → AreValues values (λ _. value)
AreValues-same values value lines same = λ l fallback h. same l fallback (subst (λ n. l < n) (sym lines) h)

-- where line k gets a value and no other line's value changes
pub AreValues-set :
    {T : Type 0} (values : List T) (value value' : ℕ → T) (k : ℕ) (new : T)
    → AreValues values value → length values ≡ LINES → k < LINES
    → new ≡ value' k → ((l : ℕ) → eqb k l ≡ false → value' l ≡ value l)
    → AreValues (set values k new) value'
AreValues-set values value value' k new are lines below here other = λ l fallback h.
    ⊎_elim
    (λ t.
    let same : k ≡ l = eqb-true _ _ t in
    ap (λ i. get_or (set values k new) i fallback) (sym same)
    ∙ get_or-set_same values k new fallback (subst (λ n. k < n) (sym lines) below)
    ∙ here
    ∙ ap value' same)
    (λ f.
    get_or-set_other values k l new fallback (λ w. eqb-false _ _ f (sym w))
    ∙ are l fallback h
    ∙ sym (other l f))
    (cases_Bool (eqb k l))

-- at first all lines are left
pub IsLeft-start : {T : Type 0} (values : List T) (left : List (ℕ × T)) → left ≡ enumerate_from 0 values → IsLeft values 0 left
IsLeft-start values left e = record { is = e; within = omega arith }

-- what a loop over the lines and their values is given next, and what it leaves
pub record IsTurn {T : Type 0} (values : List T) (n line : ℕ) (value : T) (left : List (ℕ × T)) : Type 0 where
  pub line_is : line ≡ n
  pub value_is : (fallback : T) → value ≡ get_or values n fallback
  pub below : n < length values
  pub left_is : IsLeft values (n + 1) left

-- the parts of equal lists
first_is : {T : Type 0} (line n : ℕ) (value value' : T) (left left' : List (ℕ × T)) → (line, value) ∷ left ≡ (n, value') ∷ left' → (line ≡ n) × (value ≡ value') × (left ≡ left')
first_is line n value value' left left' e =
    (ap (λ all. get_or (map (λ item. item.0) all) 0 line) e, ap (λ all. get_or (map (λ item. item.1) all) 0 value) e, ap (drop 1) e)

-- the next is line n
pub IsLeft-turn : {T : Type 0} (values : List T) (n line : ℕ) (value : T) (before left : List (ℕ × T)) → IsLeft values n before → before ≡ (line, value) ∷ left → IsTurn values n line value left
IsLeft-turn {T} values n line value before left left_before e =
    let same : (line, value) ∷ left ≡ enumerate_from n (drop n values) = sym e ∙ left_before.is in
    let below : n < length values = omega (arith, ap length same, length-enumerate_from n (drop n values), length-drop n values) in
    let more : n + 1 ≤ length values = omega (arith, below) in
    let parts = λ (fallback : T). first_is line n value _ left _ (same ∙ ap (enumerate_from n) (drop_more values n fallback below)) in
    record {
      line_is = (parts value).0;
      value_is = λ fallback. (parts fallback).1;
      below = below;
      left_is = record { is = (parts value).2; within = more };
    }

-- where nothing is left, all lines were given
pub IsLeft-end : {T : Type 0} (values : List T) (n : ℕ) (left : List (ℕ × T)) → IsLeft values n left → left ≡ [] → n ≡ length values
IsLeft-end values n left before e =
    omega (arith, before.within, ap length (sym e ∙ before.is), length-enumerate_from n (drop n values), length-drop n values)
