-- The route of the longest code, found by the numbers of the first digits.
use Rattle.std.proofs.Common.{◌≡◌, ℕ, zero, suc, ◌<◌, ◌≤◌, List, [], ◌∷◌, length, Option, Some, None, Bool, true, false, option_map, take, length-take-le, refl, sym, ap, ◌∙◌, ⊎_elim, arith}
use Rattle.std.specs.Prelude.{nat_le, slice_get, if◌then◌else◌}
use Rattle.std.proofs.lemmas.Bool.{cases_Bool, cond-true, cond-false}
use Rattle.std.proofs.lemmas.Bool.Decides.{nat_tests}
use Rattle.xb_model.specs.Routing.{CodedRoute, route_for}
use Rattle.xb_routes.specs.declared.route.Route.{Route}
use Rattle.xb_routes.specs.Codes.{AreDigits}
use Rattle.xb_routes.specs.Coded.{uncoded}
use Rattle.xb_routes.specs.Places.{code_number, place_of, place_of_first}
use Rattle.xb_routes.specs.Text.{has_code}
use Rattle.xb_routes.proofs.Longest.{Left, at-place, left-found, left-next}
use Rattle.xb_structs.specs.declared.route.PlainRoute.{PlainRoute}
use Rattle.xb_structs.specs.Deciding.{IsLongest}
use Rattle.xb_structs.specs.Routes.{HaveSameRoutes, numbered, numbered_first, of_code, route_in}

-- what stands at a place, if there is one
abbrev at : List CodedRoute → Option ℕ → Option CodedRoute
at routes None = None
at routes (Some p) = slice_get routes p

-- the route of a code stands at the code's place
of_code-at : (code : List ℕ) (routes : List CodedRoute) → of_code code routes ≡ at routes (place_of code routes)
of_code-at code [] = refl
of_code-at code (route ∷ routes) = by (has_code code route) (place_of code routes) (of_code-at code routes)
  where
    by : (b : Bool) (q : Option ℕ) → of_code code routes ≡ at routes q
        → (if b then Some route else of_code code routes) ≡ at (route ∷ routes) (if b then Some 0 else option_map suc q)
    by true q e = refl
    by false None e = e
    by false (Some k) e = e

some-injective : {X : Type 0} {x y : X} → Some x ≡ Some y → x ≡ y
some-injective e = cc

-- what a search by the first n digits gives: the route of the longest code, or the shorter codes are left
pub record Step (digits : List ℕ) (routes : List CodedRoute) (n : ℕ) (lengths : List ℕ) (r : Option Route) : Type 0 where
  pub found : (route : Route) → r ≡ Some route → IsLongest routes digits (Some (n, route))
  pub goes_on : r ≡ None → Left digits lengths routes

module _ (plain : List PlainRoute) (routes : List CodedRoute) (same : HaveSameRoutes plain routes) (digits : List ℕ) (n : ℕ) (lengths : List ℕ) where
  abbrev code : List ℕ
  code = take n digits

  abbrev given : Option Route
  given = option_map route_in (numbered (code_number code) plain)

  by_place : (q : Option ℕ) → place_of code routes ≡ q → nat_le n (length digits) ≡ true → given ≡ option_map uncoded (at routes q)
      → Left digits (n ∷ lengths) routes → Step digits routes n lengths given
  by_place None e fits is left = record {
    found = λ route f. absurd (cc (sym f ∙ is));
    goes_on = λ f. left-next digits n lengths routes left (cond-true _ _ _ fits ∙ e);
  }
  by_place (Some p) e fits is left =
      let first : place_of_first n digits routes ≡ Some p = cond-true _ _ _ fits ∙ e in
      let there = at-place digits code routes p e in
      let gives : given ≡ Some (uncoded there.0) = is ∙ ap (option_map uncoded) there.1 in
      record {
        found = λ route f. (
          record {
            route = there.0;
            longest = sym (left-found digits n lengths routes left p first) ∙ there.1;
            code = there.2;
            whole = ap length there.2 ∙ length-take-le n digits (grind (arith, nat_tests));
          },
          some-injective (sym gives ∙ f),
        );
        goes_on = λ f. absurd (cc (sym f ∙ gives));
      }

  pub step : (n ≤ length digits → AreDigits code) → Left digits (n ∷ lengths) routes → (r : Option Route)
      → r ≡ option_map route_in (numbered_first n digits plain) → Step digits routes n lengths r
  step are left r is =
      ⊎_elim
      (λ fits.
      let whole : r ≡ given = is ∙ ap (option_map route_in) (cond-true _ _ _ fits) in
      let codes : given ≡ option_map uncoded (at routes (place_of code routes)) = same code (are (grind (arith, nat_tests))) ∙ ap (option_map uncoded) (of_code-at code routes) in
      rw whole (by_place (place_of code routes) refl fits codes left))
      (λ past.
      let none : r ≡ None = is ∙ ap (option_map route_in) (cond-false _ _ _ past) in
      record {
        found = λ route f. absurd (cc (sym f ∙ none));
        goes_on = λ f. left-next digits n lengths routes left (cond-false _ _ _ past);
      })
      (cases_Bool (nat_le n (length digits)))
