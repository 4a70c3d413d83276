-- Laws of items as they go through a ring.
use Rattle.std.proofs.Common.{min, add-zero, Bool, subst, ◌+◌, ◌-◌, ◌^◌, length, length-append, arith, ◌≡◌, ℕ, true, false, List, [], ◌∷◌, ◌++◌, map, refl, sym, ap, ◌∙◌, append-nil}
use Rattle.std.proofs.lemmas.List.{map-append}
use Rattle.xb_flow.specs.Flows.{items_of, has_end, flow_of, IsFlow, counted}
use Rattle.xb_flow.specs.declared.flow.Flow.{Flow}
use Rattle.xb_flow.specs.declared.flow.Flow.TheVariants.{Item, End}
use mathlib.Core.List.{IsPrefix}
use Rattle.xb_flow.proofs.Prefixes.{prefix_cons}

module _ {X : Type 0} where
  pub items_of-item : (xs : List (Flow X)) (x : X) → has_end xs ≡ false → items_of (xs ++ Item x ∷ []) ≡ items_of xs ++ x ∷ []
  items_of-item [] x h = refl
  items_of-item (Item y ∷ xs) x h = ap (λ zs. y ∷ zs) (items_of-item xs x h)
  items_of-item (End ∷ xs) x h = cc

  pub has_end-item : (xs : List (Flow X)) (x : X) → has_end xs ≡ false → has_end (xs ++ Item x ∷ []) ≡ false
  has_end-item [] x h = refl
  has_end-item (Item y ∷ xs) x h = has_end-item xs x h
  has_end-item (End ∷ xs) x h = cc

  pub items_of-end : (xs : List (Flow X)) → has_end xs ≡ false → items_of (xs ++ End ∷ []) ≡ items_of xs
  items_of-end [] h = refl
  items_of-end (Item y ∷ xs) h = ap (λ zs. y ∷ zs) (items_of-end xs h)
  items_of-end (End ∷ xs) h = cc

  pub has_end-end : (xs : List (Flow X)) → has_end xs ≡ false → has_end (xs ++ End ∷ []) ≡ true
  has_end-end [] h = refl
  has_end-end (Item y ∷ xs) h = has_end-end xs h
  has_end-end (End ∷ xs) h = cc

module _ {X : Type 0} where
  pub IsFlow-item : (xs : List (Flow X)) (x : X) → has_end xs ≡ false → IsFlow xs → IsFlow (xs ++ Item x ∷ [])
  IsFlow-item xs x h f =
      let e : xs ≡ map Item (items_of xs) = rw h at f ∙ append-nil _ in
      rw (items_of-item xs x h, has_end-item xs x h, map-append Item (items_of xs) (x ∷ [])) (ap (λ zs. zs ++ Item x ∷ []) e ∙ sym (append-nil _))

  pub IsFlow-end : (xs : List (Flow X)) → has_end xs ≡ false → IsFlow xs → IsFlow (xs ++ End ∷ [])
  IsFlow-end xs h f =
      let e : xs ≡ map Item (items_of xs) = rw h at f ∙ append-nil _ in
      rw (items_of-end xs h, has_end-end xs h) (ap (λ zs. zs ++ End ∷ []) e)

  pub IsFlow-more : (xs : List (Flow X)) (y : Flow X) → has_end xs ≡ false → IsFlow xs → IsFlow (xs ++ y ∷ [])
  IsFlow-more xs (Item x) h f = IsFlow-item xs x h f
  IsFlow-more xs End h f = IsFlow-end xs h f

  -- one item more, or none where the End came
  pub items_more : (xs : List (Flow X)) (y : Flow X) → has_end xs ≡ false → length (items_of (xs ++ y ∷ [])) ≡ length (items_of xs) + length (items_of (y ∷ []))
  items_more xs (Item x) h = ap length (items_of-item xs x h) ∙ length-append (items_of xs) (x ∷ [])
  items_more xs End h = ap length (items_of-end xs h) ∙ sym (add-zero (length (items_of xs)))

-- a count that stops at a bound, after more
pub count_on : (a b m : ℕ) → min (min a m + b) m ≡ min (a + b) m
count_on a b m = omega arith

module _ {X : Type 0} where
  -- the count of what was received, after one more
  pub count_more : (xs : List (Flow X)) (y : Flow X) → has_end xs ≡ false → (taken : ℕ) → taken ≡ counted (length (items_of xs))
      → min (taken + length (items_of (y ∷ []))) (2 ^ 64 - 1) ≡ counted (length (items_of (xs ++ y ∷ [])))
  count_more xs y h taken e = rw (e, items_more xs y h) (count_on (length (items_of xs)) (length (items_of (y ∷ []))) (2 ^ 64 - 1))

module _ {X : Type 0} where
  pub items_of-flow : (xs : List X) (b : Bool) → items_of (flow_of xs b) ≡ xs
  items_of-flow [] true = refl
  items_of-flow [] false = refl
  items_of-flow (x ∷ xs) b = ap (λ zs. x ∷ zs) (items_of-flow xs b)

  pub has_end-flow : (xs : List X) (b : Bool) → has_end (flow_of xs b) ≡ b
  has_end-flow [] true = refl
  has_end-flow [] false = refl
  has_end-flow (x ∷ xs) b = has_end-flow xs b

  pub items_of-prefix : (xs ys : List (Flow X)) → IsPrefix (items_of xs) (items_of (xs ++ ys))
  items_of-prefix [] ys = (items_of ys, refl)
  items_of-prefix (Item x ∷ xs) ys = prefix_cons x (items_of xs) (items_of (xs ++ ys)) (items_of-prefix xs ys)
  items_of-prefix (End ∷ xs) ys = ([], refl)

  -- nothing counts that stands after an End
  pub items_of-ended : (xs ys : List (Flow X)) → has_end xs ≡ true → items_of (xs ++ ys) ≡ items_of xs
  items_of-ended [] ys h = cc
  items_of-ended (Item x ∷ xs) ys h = ap (λ zs. x ∷ zs) (items_of-ended xs ys h)
  items_of-ended (End ∷ xs) ys h = refl

  pub has_end-ended : (xs ys : List (Flow X)) → has_end xs ≡ true → has_end (xs ++ ys) ≡ true
  has_end-ended [] ys h = cc
  has_end-ended (Item x ∷ xs) ys h = has_end-ended xs ys h
  has_end-ended (End ∷ xs) ys h = refl

  -- the items that were sent are the first of those that are sent in all
  pub flow-front : (outs rest : List (Flow X)) (xs : List X) (ended : Bool) → outs ++ rest ≡ flow_of xs ended → IsPrefix (items_of outs) xs
  flow-front outs rest xs ended e = subst (IsPrefix (items_of outs)) (ap items_of e ∙ items_of-flow xs ended) (items_of-prefix outs rest)

  -- once the End was sent, they are all
  pub flow-whole : (outs rest : List (Flow X)) (xs : List X) (ended : Bool) → outs ++ rest ≡ flow_of xs ended → has_end outs ≡ true → (items_of outs ≡ xs) × (ended ≡ true)
  flow-whole outs rest xs ended e h = (
    sym (items_of-ended outs rest h) ∙ (ap items_of e ∙ items_of-flow xs ended),
    sym (has_end-flow xs ended) ∙ (ap has_end (sym e) ∙ has_end-ended outs rest h),
  )
