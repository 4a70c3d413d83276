-- The first pair of all, found by its higher frequency.
use Rattle.std.proofs.Common.{◌≡◌, ◌∙◌, ℕ, ◌+◌, ◌<◌, Bool, true, false, List, [], ◌∷◌, ◌++◌, length, get_or, take, drop, Option, Some, None, is_some, ap, refl, sym}
use Rattle.std.specs.Prelude.{if◌then◌else◌}
use Rattle.std.proofs.lemmas.List.{drop_more, take_more}
use Rattle.xb_model.specs.declared.key.Tone.{Tone as Pair}
use Rattle.xb_ear.specs.declared.levels.Levels.{Levels}
use Rattle.xb_ear.specs.declared.sight.Sight.{Sight}
use Rattle.xb_ear.specs.Pairs.{first_pair, is_pair, pairs_among, pairs_below, sight}

module _ (k : ℕ) (levels : Levels) where
  here : (xs ys : List Pair) (s : Sight) → first_pair k levels xs ≡ Some s → first_pair k levels (xs ++ ys) ≡ Some s
  here [] ys s e = absurd (cc)
  here (x ∷ xs) ys s e = by (is_pair k levels x) (λ f. here xs ys s f) e
    where
      by : (b : Bool) → (first_pair k levels xs ≡ Some s → first_pair k levels (xs ++ ys) ≡ Some s)
          → (if b then Some (sight levels x) else first_pair k levels xs) ≡ Some s
          → (if b then Some (sight levels x) else first_pair k levels (xs ++ ys)) ≡ Some s
      by true more e = e
      by false more e = more e

  later : (xs ys : List Pair) → first_pair k levels xs ≡ None → first_pair k levels (xs ++ ys) ≡ first_pair k levels ys
  later [] ys e = refl
  later (x ∷ xs) ys e = by (is_pair k levels x) (λ f. later xs ys f) e
    where
      by : (b : Bool) → (first_pair k levels xs ≡ None → first_pair k levels (xs ++ ys) ≡ first_pair k levels ys)
          → (if b then Some (sight levels x) else first_pair k levels xs) ≡ None
          → (if b then Some (sight levels x) else first_pair k levels (xs ++ ys)) ≡ first_pair k levels ys
      by true more e = absurd (cc)
      by false more e = more e

  -- a sight that was found is the first of all
  first : (xs ys : List Pair) (s end : Option Sight) → s ≡ first_pair k levels xs → first_pair k levels (xs ++ ys) ≡ end
      → is_some s ≡ true → s ≡ end
  first xs ys None end is all some = absurd (cc)
  first xs ys (Some x) end is all some = sym (here xs ys x (sym is)) ∙ all

  rest : (xs ys : List Pair) (s end : Option Sight) → s ≡ first_pair k levels xs → first_pair k levels (xs ++ ys) ≡ end
      → is_some s ≡ false → first_pair k levels ys ≡ end
  rest xs ys None end is all none = sym (later xs ys (sym is)) ∙ all
  rest xs ys (Some x) end is all none = absurd (cc)

  abbrev front : List ℕ → ℕ → List Pair
  front all n = pairs_below (take n all) (get_or all n 0)

  abbrev back : List ℕ → ℕ → List Pair
  back all n = pairs_among (take n all ++ get_or all n 0 ∷ []) (drop (n + 1) all)

  module _ (all : List ℕ) (n : ℕ) (below : n < length all) (s end : Option Sight)
      (is : s ≡ first_pair k levels (front all n))
      (so_far : first_pair k levels (pairs_among (take n all) (drop n all)) ≡ end) where
    -- the pairs of the frequency come first
    parts : first_pair k levels (front all n ++ back all n) ≡ end
    parts = sym (ap (λ (later : List ℕ). first_pair k levels (pairs_among (take n all) later)) (drop_more all n 0 below)) ∙ so_far

    pub found : is_some s ≡ true → s ≡ end
    found some = first (front all n) (back all n) s end is parts some

    pub none-found : is_some s ≡ false → first_pair k levels (pairs_among (take (n + 1) all) (drop (n + 1) all)) ≡ end
    none-found none =
        ap (λ (lower : List ℕ). first_pair k levels (pairs_among lower (drop (n + 1) all))) (take_more all n 0 below)
        ∙ rest (front all n) (back all n) s end is parts none
