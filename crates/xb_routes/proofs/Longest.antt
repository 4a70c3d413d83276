-- The route of the longest code, found by the first digits, the greatest length first.
use Rattle.std.proofs.Common.{◌≡◌, ◌≢◌, ◌≤◌, ◌<◌, ℕ, zero, suc, eq-eqb, Bool, true, false, List, [], ◌∷◌, length, get_or, map, take, Option, Some, None, option_map, refl, sym, ap, subst, ◌∙◌, ◌⊎◌, ⊎_elim, inl, inr, arith}
use Rattle.std.specs.Prelude.{◌==◌, if◌then◌else◌, nat_le, nat_lt, slice_get}
use Rattle.std.specs.List.{AllByRecursion, Contains}
use Rattle.std.proofs.lemmas.Bool.{and_parts, cases_Bool, cond-true, cond-false, eqb-true, le-ltb, lt-ltb}
use Rattle.std.proofs.lemmas.List.{length-take-le}
use Rattle.std.proofs.lemmas.Option.{slice_get-get_or, slice_get-map}
use Rattle.std.proofs.lemmas.List.Elements.{All-contains, All-from_recursion}
use Rattle.std.proofs.lemmas.Bool.Decides.{nat_tests}
use Rattle.xb_model.specs.Routing.{CodedRoute, covers, longer_of, longest_of, route_for}
use Rattle.xb_routes.specs.declared.code.TheConstants.{CODE_LENGTHS}
use Rattle.xb_routes.specs.declared.route.Entry.{Entry}
use Rattle.xb_routes.specs.Coded.{coded}
use Rattle.xb_routes.specs.Codes.{IsCodeLength}
use Rattle.xb_routes.specs.Text.{has_code}
use Rattle.xb_routes.specs.Places.{place_of, place_of_first}
use Rattle.xb_routes.proofs.Places.{has-code, has-code-is, place-none}

-- a code that covers digits is the first of them
pub covers-take : (code digits : List ℕ) → covers code digits ≡ true → take (length code) digits ≡ code
covers-take [] digits h = refl
covers-take (c ∷ code) [] h = absurd (cc)
covers-take (c ∷ code) (d ∷ digits) h =
    let p = and_parts _ _ h in
    let same : c ≡ d = eqb-true c d p.0 in
    ap (λ x. x ∷ take (length code) digits) (sym same) ∙ ap (λ xs. c ∷ xs) (covers-take code digits p.1)

-- a code that covers digits is no longer than they are
pub covers-length : (code digits : List ℕ) → covers code digits ≡ true → length code ≤ length digits
covers-length [] digits h = omega arith
covers-length (c ∷ code) [] h = absurd (cc)
covers-length (c ∷ code) (d ∷ digits) h = omega (arith, covers-length code digits (and_parts (c == d) (covers code digits) h).1)

-- the first of digits cover them
pub covers-first : (n : ℕ) (digits : List ℕ) → covers (take n digits) digits ≡ true
covers-first zero digits = refl
covers-first (suc n) [] = refl
covers-first (suc n) (d ∷ digits) = rw (eq-eqb d d refl) (covers-first n digits)

-- the longer of two is one of them
longer-is : (route : CodedRoute) (best : Option CodedRoute) (o : CodedRoute) → longer_of route best ≡ Some o → (o ≡ route) ⊎ (best ≡ Some o)
longer-is route None o e = inl (cc)
longer-is route (Some other) o e = by (nat_lt (length route.code) (length other.code)) e
  where
    by : (b : Bool) → (if b then Some other else Some route) ≡ Some o → (o ≡ route) ⊎ (Some other ≡ Some o)
    by true e = inr e
    by false e = inl (cc)

-- an entry that stands at a place gives the route there
pub entry-at : (entries : List Entry) (p : ℕ) (entry : Entry) → p < length entries → entry ≡ get_or entries p entry
    → slice_get (map coded entries) p ≡ Some (coded entry)
entry-at entries p entry below e =
    slice_get-map coded entries p ∙ ap (option_map coded) (slice_get-get_or entries p entry below ∙ ap (λ x. Some x) (sym e))

-- the place of a code is one of the routes
below-length : (code : List ℕ) (routes : List CodedRoute) (p : ℕ) → place_of code routes ≡ Some p → p < length routes
below-length code [] p e = absurd (cc)
below-length code (route ∷ routes) p e = by (has_code code route) (place_of code routes) refl e (below-length code routes)
  where
    by : (b : Bool) (q : Option ℕ) → place_of code routes ≡ q → (if b then Some 0 else option_map suc q) ≡ Some p
        → ((k : ℕ) → place_of code routes ≡ Some k → k < length routes) → p < suc (length routes)
    by true q f e more = let first : 0 ≡ p = cc in omega arith
    by false None f e more = absurd (cc)
    by false (Some k) f e more = let next : suc k ≡ p = cc in omega (arith, more k f)

-- a length other than the first is among the others
other-length : (n : ℕ) (lengths : List ℕ) (m : ℕ) → Contains (n ∷ lengths) m → m ≢ n → Contains lengths m
other-length n lengths m (zero, below, e) other = absurd (other (sym e))
other-length n lengths m (suc k, below, e) other = (k, omega (arith, below), e)

-- no length is greater than one before it
abbrev pub Descend : List ℕ → Type 0
Descend [] = Unit {0}
Descend (n ∷ lengths) = AllByRecursion (λ m. m ≤ n) lengths × Descend lengths

-- so the first is the greatest
first-greatest : (n : ℕ) (lengths : List ℕ) (m : ℕ) → Descend (n ∷ lengths) → Contains (n ∷ lengths) m → m ≤ n
first-greatest n lengths m d (zero, below, e) = omega (arith, e)
first-greatest n lengths m d (suc k, below, e) = All-contains (λ m. m ≤ n) lengths m (All-from_recursion (λ m. m ≤ n) lengths d.0) (k, omega (arith, below), e)

module _ (digits : List ℕ) where
  -- where a route covers the digits, its code has at most n of them
  abbrev pub Within : ℕ → CodedRoute → Type 0
  Within n route = covers route.code digits ≡ true → length route.code ≤ n

  abbrev pub AllWithin : ℕ → List CodedRoute → Type 0
  AllWithin n routes = AllByRecursion (Within n) routes

  -- a first route that covers the digits, and one that does not
  route_for-cover : (route : CodedRoute) (routes : List CodedRoute) → covers route.code digits ≡ true
      → route_for (route ∷ routes) digits ≡ longer_of route (route_for routes digits)
  route_for-cover route routes h = ap longest_of (cond-true _ _ _ h)

  route_for-other : (route : CodedRoute) (routes : List CodedRoute) → covers route.code digits ≡ false
      → route_for (route ∷ routes) digits ≡ route_for routes digits
  route_for-other route routes h = ap longest_of (cond-false _ _ _ h)

  -- then the route that is found has at most n digits in its code
  route_for-within : (n : ℕ) (routes : List CodedRoute) → AllWithin n routes → (o : CodedRoute)
      → route_for routes digits ≡ Some o → length o.code ≤ n
  route_for-within n [] a o e = absurd (cc)
  route_for-within n (route ∷ routes) a o e =
      let more = route_for-within n routes a.1 o in
      ⊎_elim
      (λ h.
      ⊎_elim
      (λ same. subst (λ (r : CodedRoute). length r.code ≤ n) (sym same) (a.0 h))
      (λ later. more later)
      (longer-is route (route_for routes digits) o (sym (route_for-cover route routes h) ∙ e)))
      (λ h. more (sym (route_for-other route routes h) ∙ e))
      (cases_Bool (covers route.code digits))

  -- which of two is the longer
  longer-first : (route : CodedRoute) (best : Option CodedRoute)
      → ((o : CodedRoute) → best ≡ Some o → length o.code ≤ length route.code) → longer_of route best ≡ Some route
  longer-first route None within = refl
  longer-first route (Some other) within = cond-false _ _ _ (le-ltb (length route.code) (length other.code) (within other refl))

  longer-second : (route other : CodedRoute) → length route.code < length other.code → longer_of route (Some other) ≡ Some other
  longer-second route other h = cond-true _ _ _ (lt-ltb (length route.code) (length other.code) h)

  -- what stands at the place of a code has the code
  pub at-place : (code : List ℕ) (routes : List CodedRoute) (p : ℕ) → place_of code routes ≡ Some p
      → (route : CodedRoute) × (slice_get routes p ≡ Some route) × (route.code ≡ code)
  at-place code [] p e = absurd (cc)
  at-place code (route ∷ routes) p e =
      ⊎_elim
      (λ h. let first : Some 0 ≡ Some p = sym (cond-true _ _ _ h) ∙ e in
      let zero : p ≡ 0 = cc in
      (route, rw zero refl, has-code-is code route h))
      (λ h. by (place_of code routes) refl (sym (cond-false _ _ _ h) ∙ e) (at-place code routes))
      (cases_Bool (has_code code route))
    where
      by : (q : Option ℕ) → place_of code routes ≡ q → option_map (λ n. suc n) q ≡ Some p
          → ((k : ℕ) → place_of code routes ≡ Some k → (r : CodedRoute) × (slice_get routes k ≡ Some r) × (r.code ≡ code))
          → (r : CodedRoute) × (slice_get (route ∷ routes) p ≡ Some r) × (r.code ≡ code)
      by None f g more = absurd (cc)
      by (Some k) f g more =
          let next : p ≡ suc k = cc in
          let m = more k f in
          (m.0, rw next m.1, m.2)

  -- where no code that covers the digits is longer than one that does, the route of that one is found
  longest-at : (code : List ℕ) → covers code digits ≡ true → (routes : List CodedRoute) → AllWithin (length code) routes
      → (p : ℕ) → place_of code routes ≡ Some p → slice_get routes p ≡ route_for routes digits
  longest-at code fits [] a p e = absurd (cc)
  longest-at code fits (route ∷ routes) a p e =
      ⊎_elim
      (λ h.
      let first : Some 0 ≡ Some p = sym (cond-true _ _ _ h) ∙ e in
      let zero : p ≡ 0 = cc in
      let same : route.code ≡ code = has-code-is code route h in
      let within : (o : CodedRoute) → route_for routes digits ≡ Some o → length o.code ≤ length route.code =
      λ o f. subst (λ (c : List ℕ). length o.code ≤ length c) (sym same) (route_for-within (length code) routes a.1 o f) in
      rw zero (sym (route_for-cover route routes (ap (λ c. covers c digits) same ∙ fits) ∙ longer-first route (route_for routes digits) within)))
      (λ h. by (place_of code routes) refl (sym (cond-false _ _ _ h) ∙ e) h (longest-at code fits routes a.1))
      (cases_Bool (has_code code route))
    where
      -- a first route that is shorter
      shorter : has_code code route ≡ false → covers route.code digits ≡ true → length route.code ≤ length code → length route.code < length code
      shorter h c w = ⊎_elim (λ (l : length route.code < length code). l) (λ (s : length route.code ≡ length code).
          absurd (cc (has-code code route (sym (covers-take route.code digits c) ∙ ap (λ n. take n digits) s ∙ covers-take code digits fits)))) (grind (arith))

      by : (q : Option ℕ) → place_of code routes ≡ q → option_map (λ n. suc n) q ≡ Some p → has_code code route ≡ false
          → ((k : ℕ) → place_of code routes ≡ Some k → slice_get routes k ≡ route_for routes digits)
          → slice_get (route ∷ routes) p ≡ route_for (route ∷ routes) digits
      by None f g h more = absurd (cc)
      by (Some k) f g h more =
          let next : p ≡ suc k = cc in
          let m = at-place code routes k f in
          let best : route_for routes digits ≡ Some m.0 = sym (more k f) ∙ m.1 in
          let found : slice_get routes k ≡ route_for (route ∷ routes) digits = ⊎_elim
          (λ c.
          m.1 ∙ sym (route_for-cover route routes c ∙ ap (longer_of route) best
          ∙ longer-second route m.0 (subst (λ (d : List ℕ). length route.code < length d) (sym m.2) (shorter h c (a.0 c)))))
          (λ c. more k f ∙ sym (route_for-other route routes c))
          (cases_Bool (covers route.code digits)) in
          rw next found

  -- where the first n digits have no place, no code that covers the digits has n of them
  none-so-long : (n : ℕ) (routes : List CodedRoute) → place_of_first n digits routes ≡ None
      → AllByRecursion (λ route. covers route.code digits ≡ true → length route.code ≢ n) routes
  none-so-long n [] e = tt
  none-so-long n (route ∷ routes) e =
      ⊎_elim
      (λ h.
      let p = place-none (take n digits) route routes (sym (cond-true _ _ _ h) ∙ e) in (
        (λ c same. cc (p.0, has-code (take n digits) route (sym (covers-take route.code digits c) ∙ ap (λ k. take k digits) same))),
        none-so-long n routes (cond-true _ _ _ h ∙ p.1),
      ))
      (λ h. (
        (λ c same. absurd (past h (covers-length route.code digits c) same)),
        none-so-long n routes (cond-false _ _ _ h),
      ))
      (cases_Bool (nat_le n (length digits)))
    where
      past : nat_le n (length digits) ≡ false → length route.code ≤ length digits → length route.code ≡ n → ⊥
      past h c same = grind (arith, nat_tests)

  -- where no code that covers the digits has more than n, the place of the first n is that of the route
  longest-first : (n : ℕ) (routes : List CodedRoute) → AllWithin n routes
      → (p : ℕ) → place_of_first n digits routes ≡ Some p → slice_get routes p ≡ route_for routes digits
  longest-first n routes a p e =
      ⊎_elim
      (λ h.
      let whole : length (take n digits) ≡ n = first-length h in
      longest-at (take n digits) (covers-first n digits) routes (subst (λ (k : ℕ). AllWithin k routes) (sym whole) a) p (sym (cond-true _ _ _ h) ∙ e))
      (λ h. absurd (cc (sym (cond-false (nat_le n (length digits)) (place_of (take n digits) routes) None h) ∙ e)))
      (cases_Bool (nat_le n (length digits)))
    where
      first-length : nat_le n (length digits) ≡ true → length (take n digits) ≡ n
      first-length h = length-take-le n digits (grind (arith, nat_tests))

  -- each code that covers the digits has one of these lengths
  abbrev pub CoversBy : List ℕ → List CodedRoute → Type 0
  CoversBy lengths routes = AllByRecursion (λ route. covers route.code digits ≡ true → Contains lengths (length route.code)) routes

  covers-left : (n : ℕ) (lengths : List ℕ) (routes : List CodedRoute) → CoversBy (n ∷ lengths) routes
      → AllByRecursion (λ route. covers route.code digits ≡ true → length route.code ≢ n) routes → CoversBy lengths routes
  covers-left n lengths [] a others = tt
  covers-left n lengths (route ∷ routes) a others =
      ((λ c. other-length n lengths (length route.code) (a.0 c) (others.0 c)), covers-left n lengths routes a.1 others.1)

  covers-within : (n : ℕ) (lengths : List ℕ) → Descend (n ∷ lengths) → (routes : List CodedRoute) → CoversBy (n ∷ lengths) routes → AllWithin n routes
  covers-within n lengths d [] a = tt
  covers-within n lengths d (route ∷ routes) a =
      ((λ c. first-greatest n lengths (length route.code) d (a.0 c)), covers-within n lengths d routes a.1)

  -- where no length is left, no code covers the digits
  covers-none : (routes : List CodedRoute) → CoversBy [] routes → route_for routes digits ≡ None
  covers-none [] a = refl
  covers-none (route ∷ routes) a =
      ⊎_elim (λ h. absurd (none (a.0 h))) (λ h. route_for-other route routes h ∙ covers-none routes a.1)
      (cases_Bool (covers route.code digits))
    where
      none : Contains [] (length route.code) → ⊥
      none (k, below, e) = omega arith

  -- the lengths that a search has still to try: none is greater than one before it, and each code
  -- that covers the digits has one of them
  pub record Left (lengths : List ℕ) (routes : List CodedRoute) : Type 0 where
    pub descend : Descend lengths
    pub covers : CoversBy lengths routes

  -- at first all lengths of codes are left
  pub left-all : (routes : List CodedRoute) → AllByRecursion (λ route. IsCodeLength (length route.code)) routes → Left CODE_LENGTHS routes
  left-all routes lengths = record { descend = descending; covers = by routes lengths }
    where
      descending : Descend CODE_LENGTHS
      descending = omega arith

      by : (routes : List CodedRoute) → AllByRecursion (λ route. IsCodeLength (length route.code)) routes → CoversBy CODE_LENGTHS routes
      by [] a = tt
      by (route ∷ routes) a = ((λ c. a.0), by routes a.1)

  -- where the first length has no place, the others are left
  pub left-next : (n : ℕ) (lengths : List ℕ) (routes : List CodedRoute) → Left (n ∷ lengths) routes
      → place_of_first n digits routes ≡ None → Left lengths routes
  left-next n lengths routes left e = record {
    descend = left.descend.1;
    covers = covers-left n lengths routes left.covers (none-so-long n routes e);
  }

  -- where the first length has a place, the route there has the longest code
  pub left-found : (n : ℕ) (lengths : List ℕ) (routes : List CodedRoute) → Left (n ∷ lengths) routes → (p : ℕ)
      → place_of_first n digits routes ≡ Some p → slice_get routes p ≡ route_for routes digits
  left-found n lengths routes left p e = longest-first n routes (covers-within n lengths left.descend routes left.covers) p e

  -- where no length is left, the digits begin with no code
  pub left-none : (routes : List CodedRoute) → Left [] routes → route_for routes digits ≡ None
  left-none routes left = covers-none routes left.covers

  -- a place is one of the routes
  pub place-below : (n : ℕ) (routes : List CodedRoute) (p : ℕ) → place_of_first n digits routes ≡ Some p → p < length routes
  place-below n routes p e =
      ⊎_elim (λ h. below-length (take n digits) routes p (sym (cond-true _ _ _ h) ∙ e)) (λ h. absurd (cc (cond-false (nat_le n (length digits)) (place_of (take n digits) routes) None h)))
      (cases_Bool (nat_le n (length digits)))
