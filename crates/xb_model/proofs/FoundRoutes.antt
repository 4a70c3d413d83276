-- A route that is found is one of the table.
use Rattle.std.proofs.Common.{ℕ, List, [], ◌∷◌, Option, Some, None}
use Rattle.std.specs.Prelude.{IfSome}
use Rattle.std.proofs.lemmas.Bool.{cond_both}
use Rattle.std.proofs.lemmas.List.Elements.{All-filter, All-from_recursion, recursion_from_All}
use Rattle.xb_model.specs.Routing.{AreRoutes, CodedRoute, IsRoute, longer_of, longest_of, route_for}

longest-is : (routes : List CodedRoute) → AreRoutes routes → IfSome (longest_of routes) IsRoute
longest-is [] are = tt
longest-is (route ∷ routes) are = by (longest_of routes) (longest-is routes are.1)
  where
    by : (found : Option CodedRoute) → IfSome found IsRoute → IfSome (longer_of route found) IsRoute
    by None is = are.0
    by (Some other) is = cond_both _ (Some other) (Some route) (λ found. IfSome found IsRoute) (λ e. is) (λ e. are.0)

pub found-is : (routes : List CodedRoute) (digits : List ℕ) → AreRoutes routes → IfSome (route_for routes digits) IsRoute
found-is routes digits are =
    longest-is _ (recursion_from_All IsRoute _ (All-filter _ IsRoute routes (All-from_recursion IsRoute routes are)))
