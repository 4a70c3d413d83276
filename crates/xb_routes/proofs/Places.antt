-- Laws of the places of routes.
use Rattle.std.proofs.Common.{◌≡◌, ◌≢◌, ℕ, suc, Bool, true, false, List, [], ◌∷◌, ◌++◌, length, Option, Some, None, option_map, refl, ap, ◌∙◌, ⊎_elim}
use Rattle.std.specs.Prelude.{is_some, if◌then◌else◌, ◌||◌}
use Rattle.std.specs.List.{list_any}
use Rattle.std.proofs.lemmas.Bool.{cases_Bool, cond-true, cond-false}
use Rattle.std.proofs.lemmas.Slice.Eq.{bytes_eq-Decides}
use Rattle.xb_model.specs.Routing.{CodedRoute}
use Rattle.xb_routes.specs.Text.{has_code}
use Rattle.xb_routes.specs.Places.{place_of}

-- a first route, and the others
place-cons : (b : Bool) (p : Option ℕ) → (if b then Some 0 else option_map suc p) ≡ None → (b ≡ false) × (p ≡ None)
place-cons true p e = absurd (cc)
place-cons false None e = (refl, refl)
place-cons false (Some n) e = absurd (cc)

module _ (code : List ℕ) where
  -- a code that the first route does not have, nor any other
  pub place-none : (route : CodedRoute) (routes : List CodedRoute) → place_of code (route ∷ routes) ≡ None → (has_code code route ≡ false) × (place_of code routes ≡ None)
  place-none route routes e = place-cons (has_code code route) (place_of code routes) e

  -- a route of the code has it by the test
  pub has-code : (route : CodedRoute) → route.code ≡ code → has_code code route ≡ true
  has-code route e = (bytes_eq-Decides route.code code).1 e

  -- a route that has the code by the test has it
  pub has-code-is : (route : CodedRoute) → has_code code route ≡ true → route.code ≡ code
  has-code-is route e = (bytes_eq-Decides route.code code).0 e

  -- a route of another code has it not
  pub has-other : (route : CodedRoute) → route.code ≢ code → has_code code route ≡ false
  has-other route n = ⊎_elim (λ h. absurd (n (has-code-is route h))) (λ h. h) (cases_Bool (has_code code route))

  -- a new code stands after the others
  pub place-after : (routes : List CodedRoute) (route : CodedRoute) → route.code ≡ code → place_of code routes ≡ None → place_of code (routes ++ route ∷ []) ≡ Some (length routes)
  place-after [] route e n = cond-true _ _ _ (has-code route e)
  place-after (r ∷ rs) route e n =
      let p = place-none r rs n in
      cond-false _ _ _ p.0 ∙ ap (λ q. option_map suc q) (place-after rs route e p.1)

  -- the place of another code is what it was
  pub place-other : (routes : List CodedRoute) (route : CodedRoute) → has_code code route ≡ false → place_of code (routes ++ route ∷ []) ≡ place_of code routes
  place-other [] route h = cond-false _ _ _ h
  place-other (r ∷ rs) route h = ap (λ q. if has_code code r then Some 0 else option_map suc q) (place-other rs route h)

  some-or : (b : Bool) (p : Option ℕ) (any : Bool) → is_some p ≡ any → is_some (if b then Some 0 else option_map suc p) ≡ (b || any)
  some-or true p any e = refl
  some-or false None any e = e
  some-or false (Some n) any e = e

  -- a code has a place where some route has it
  pub place-any : (routes : List CodedRoute) → is_some (place_of code routes) ≡ list_any (has_code code) routes
  place-any [] = refl
  place-any (r ∷ rs) = some-or (has_code code r) (place_of code rs) _ (place-any rs)

-- a place that is not there
pub not-some : (p : Option ℕ) → is_some p ≡ false → p ≡ None
not-some None h = refl
not-some (Some n) h = absurd (cc)
