-- What a search by number finds among routes whose numbers rise, and what a route that is inserted changes.
use Rattle.std.proofs.Common.{◌≡◌, ℕ, zero, suc, ◌+◌, ◌-◌, ◌<◌, ◌≤◌, eqb, ◌≢◌, List, [], ◌∷◌, length, get_or, if◌then◌else◌, Option, Some, None, Result, Ok, Err, IfOk, IfErr, refl, sym, ap, subst, arith}
use Rattle.std.specs.List.{insert}
use Rattle.std.specs.List.Sorted.{IsSearchInRange, IsBinarySearchResult, IsNonDecreasingBy}
use Rattle.std.specs.Ordering.{nat_cmp, ordering_index}
use Rattle.std.proofs.lemmas.Cmp.{ranked}
use Rattle.std.proofs.lemmas.List.Sorted.{IsNonDecreasingBy-from_default}
use Rattle.std.proofs.lemmas.List.Edits.{length-insert, get_or-insert_below, get_or-insert_at, get_or-insert_above}
use Rattle.std.proofs.lemmas.Bool.Decides.{nat_tests}
use Rattle.xb_structs.specs.declared.route.PlainRoute.{PlainRoute}
use Rattle.xb_structs.specs.Opening.{or_else, numbered_with}
use Rattle.xb_structs.specs.Routes.{numbered, number_at, no_route, Rise}

-- the route at place i has the number
pub record IsAt (routes : List PlainRoute) (n i : ℕ) : Type 0 where
  pub in_range : i < length routes
  pub has_number : number_at routes i ≡ n

-- a route with the number would go to place i
pub record IsGap (routes : List PlainRoute) (n i : ℕ) : Type 0 where
  pub in_range : i ≤ length routes
  pub smaller_before : (j : ℕ) → j < i → number_at routes j < n
  pub greater_after : (j : ℕ) → i ≤ j → j < length routes → n < number_at routes j

-- no route before place i has the number
abbrev pub NoneBefore : List PlainRoute → ℕ → ℕ → Type 0
NoneBefore routes n i = (j : ℕ) → j < i → number_at routes j ≢ n

none_before_tail : (x : PlainRoute) (l : List PlainRoute) (n i : ℕ) → NoneBefore (x ∷ l) n (suc i) → NoneBefore l n i
none_before_tail x l n i none j lt = none (suc j) (omega arith)

is_at_tail : (x : PlainRoute) (l : List PlainRoute) (n i : ℕ) → IsAt (x ∷ l) n (suc i) → IsAt l n i
is_at_tail x l n i at = record { in_range = omega (arith, at.in_range); has_number = at.has_number }

absent : (l : List PlainRoute) (n : ℕ) → NoneBefore l n (length l) → numbered n l ≡ None
absent [] n none = refl
absent (x ∷ l) n none = grind (arith, nat_tests, none 0 (omega arith), absent l n (none_before_tail x l n _ none))

present : (l : List PlainRoute) (n i : ℕ) → IsAt l n i → NoneBefore l n i → numbered n l ≡ Some (get_or l i no_route)
present [] n i at none = absurd (omega (arith, at.in_range))
present (x ∷ l) n zero at none = grind (arith, nat_tests, at.has_number)
present (x ∷ l) n (suc i) at none = grind (arith, nat_tests, none 0 (omega arith), present l n i (is_at_tail x l n i at) (none_before_tail x l n i none))

inserted : (l : List PlainRoute) (route : PlainRoute) (i : ℕ) → NoneBefore l route.code i → (q : ℕ)
    → numbered q (insert l i route) ≡ (if eqb route.code q then Some route else numbered q l)
inserted l route zero none q = refl
inserted [] route (suc i) none q = refl
inserted (x ∷ l) route (suc i) none q =
    grind (arith, nat_tests, none 0 (omega arith), inserted l route i (none_before_tail x l route.code i none) q)

module _ (l : List PlainRoute) (rise : Rise l) (n : ℕ) where
  -- the comparisons rise along the routes, as a binary search asks
  comparisons_rise : IsNonDecreasingBy (λ route. ordering_index (nat_cmp route.code n)) l
  comparisons_rise = IsNonDecreasingBy-from_default (λ route. ordering_index (nat_cmp route.code n)) l no_route (λ i j le in_range.
      let numbers_rise : number_at l i ≤ number_at l j = grind (arith, rise i j, λ (same : i ≡ j). ap (number_at l) same) in
      grind (arith, nat_tests))

  -- a binary search ends at the number, or at the gap for it
  pub searched : (r : Result ℕ ℕ) → IsSearchInRange r (length l) → IsBinarySearchResult (λ route. nat_cmp route.code n) l r
      → record { found : IfOk r (IsAt l n); absent : IfErr r (IsGap l n) }
  searched (Ok at) in_range equal = record { found = record { in_range = in_range; has_number = ranked _ n _ (sym (equal no_route)) }; absent = tt }
  searched (Err at) in_range parted = record {
    found = tt;
    absent = record {
      in_range = in_range;
      smaller_before = λ j lt. ranked _ n _ (sym ((parted comparisons_rise).0 j no_route (omega arith) lt));
      greater_after = λ j le lt. ranked _ n _ (sym ((parted comparisons_rise).1 j no_route le lt));
    };
  }

  -- the route at the number's place is found
  pub found_at : (i : ℕ) → IsAt l n i → numbered n l ≡ Some (get_or l i no_route)
  found_at i at = present l n i at (λ j lt same. omega (arith, rise j i lt at.in_range, at.has_number))

-- a number that has a gap has no route
pub found_in_gap : (l : List PlainRoute) (n i : ℕ) → IsGap l n i → numbered n l ≡ None
found_in_gap l n i gap = absent l n (λ j lt same. grind (arith, gap.smaller_before j, gap.greater_after j))

or_none : {X : Type 0} (o : Option X) → or_else o None ≡ o
or_none None = refl
or_none (Some x) = refl

-- a route in its gap is found at its number, and the others as before
pub with_inserted : (l : List PlainRoute) (route : PlainRoute) (i : ℕ) → IsGap l route.code i → (q : ℕ)
    → numbered q (insert l i route) ≡ numbered_with route q l
with_inserted l route i gap q =
    grind (arith, nat_tests, inserted l route i (λ j lt same. omega (arith, gap.smaller_before j lt)) q, found_in_gap l route.code i gap, or_none (numbered q l))

-- a route whose number is there adds nothing
pub with_present : (l : List PlainRoute) (route : PlainRoute) (i : ℕ) → Rise l → IsAt l route.code i → (q : ℕ)
    → numbered q l ≡ numbered_with route q l
with_present l route i rise at q = grind (arith, nat_tests, found_at l rise route.code i at, or_none (numbered q l))

-- numbers rise, with a route in its gap
pub rise_inserted : (l : List PlainRoute) (route : PlainRoute) (at : ℕ) → IsGap l route.code at → Rise l → Rise (insert l at route)
rise_inserted l route at gap rise i j lt in_range =
    let new = insert l at route in
    let key = λ (x : PlainRoute). x.code in
    let length_new = length-insert l at route gap.in_range in
    let key_below : (i : ℕ) → i < at → number_at new i ≡ number_at l i = λ i below. ap key (get_or-insert_below l at route no_route i below gap.in_range) in
    let key_here : (i : ℕ) → i ≡ at → number_at new i ≡ route.code = λ i here. rw here (ap key (get_or-insert_at l at route no_route gap.in_range)) in
    let key_above : (i : ℕ) → at < i → number_at new i ≡ number_at l (i - 1) = λ i above. subst (λ q. number_at new q ≡ number_at l (i - 1)) {x = i - 1 + 1} (omega arith) (ap key (get_or-insert_above l at route no_route (i - 1) (omega arith) gap.in_range)) in
    grind (arith, key_below i, key_here i, key_above i, key_below j, key_here j, key_above j, rise i j, rise i (j - 1), rise (i - 1) (j - 1), gap.smaller_before i, gap.greater_after (j - 1))
