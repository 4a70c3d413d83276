-- The index of codes, and one route more in it.
use Rattle.std.proofs.Common.{◌≡◌, ◌≢◌, ℕ, List, [], ◌∷◌, ◌++◌, length, Option, Some, None, true, false, refl, sym, ap, ◌∙◌, ⊎_elim, eqb-true}
use Rattle.std.specs.Prelude.{nat_eq, is_some}
use Rattle.std.specs.HashMap as hash
use Rattle.std.specs.HashMap.{HashMap}
use Rattle.std.specs.List.{list_any}
use Rattle.std.proofs.lemmas.Bool.{cases_Bool}
use Rattle.xb_model.specs.Routing.{CodedRoute}
use Rattle.xb_routes.specs.Codes.{AreDigits, IsCodeLength}
use Rattle.xb_routes.specs.Places.{IsIndex, code_number, place_of}
use Rattle.xb_routes.specs.Text.{has_code}
use Rattle.xb_routes.proofs.CodeNumbers.{all-push, number-injective}
use Rattle.xb_routes.proofs.Places.{has-code, has-code-is, place-after, place-any, place-other, not-some}

-- numbers that differ, by the test
apart : (n m : ℕ) → n ≢ m → nat_eq n m ≡ false
apart n m differ = ⊎_elim (λ t. absurd (differ (eqb-true n m t))) (λ f. f) (cases_Bool (nat_eq n m))

module _ {S : Type 0} (index : HashMap ℕ ℕ S) (routes : List CodedRoute) (is : IsIndex index routes) where
  -- a code is among those of the routes where the index has its number
  pub index-has : (code : List ℕ) → AreDigits code → is_some (hash.get nat_eq index (code_number code)) ≡ list_any (has_code code) routes
  index-has code digits = ap (λ (p : Option ℕ). is_some p) (is.places code digits) ∙ place-any code routes

  -- one route more, after the others, by the number of its code
  pub index-push : (new : HashMap ℕ ℕ S) (route : CodedRoute) → IsCodeLength (length route.code) → AreDigits route.code
      → list_any (has_code route.code) routes ≡ false → hash.Updates nat_eq index new (code_number route.code) (Some (length routes))
      → IsIndex new (routes ++ route ∷ [])
  index-push new route len digits none u = record {
    lengths = all-push (λ (r : CodedRoute). IsCodeLength (length r.code)) routes route is.lengths len;
    places = λ code ds. ⊎_elim (λ h. same code ds h) (λ h. other code ds h) (cases_Bool (has_code code route));
  }
    where
      absent : place_of route.code routes ≡ None
      absent = not-some _ (place-any route.code routes ∙ none)

      same : (code : List ℕ) → AreDigits code → has_code code route ≡ true
          → hash.get nat_eq new (code_number code) ≡ place_of code (routes ++ route ∷ [])
      same code ds h =
          let is-code : route.code ≡ code = has-code-is code route h in
          rw (← is-code) (u.1 ∙ sym (place-after route.code routes route refl absent))

      other : (code : List ℕ) → AreDigits code → has_code code route ≡ false
          → hash.get nat_eq new (code_number code) ≡ place_of code (routes ++ route ∷ [])
      other code ds h =
          let differ = apart (code_number route.code) (code_number code) (λ e. cc (has-code code route (number-injective route.code code digits ds e))) in
          u.2 (code_number code) differ ∙ is.places code ds ∙ sym (place-other code routes route h)
