-- The orders of some numbers.
use Rattle.std.specs.Prelude.{◌≡◌, ℕ, List, [], ◌∷◌}
use Rattle.xb_model.specs.declared.order.Order.TheVariants.{Key, Refused}
use Rattle.xb_model.specs.declared.reason.Reason.TheVariants.{Unknown}
use Rattle.xb_model.specs.Routing.{CodedRoute, coded_route, routed}
use Rattle.xb_model.specs.WorkedRows.{three_routes}

-- two routes of which one code begins the other
abbrev pub short_route : CodedRoute
short_route = coded_route (2 ∷ 1 ∷ 2 ∷ []) 41 0 []

abbrev pub long_route : CodedRoute
long_route = coded_route (2 ∷ 1 ∷ 2 ∷ 5 ∷ 5 ∷ 5 ∷ []) 40 3 []

abbrev pub covered_by_both : List ℕ
covered_by_both = 2 ∷ 1 ∷ 2 ∷ 5 ∷ 5 ∷ 5 ∷ 1 ∷ 2 ∷ 3 ∷ 4 ∷ []

abbrev pub covered_by_one : List ℕ
covered_by_one = 2 ∷ 1 ∷ 2 ∷ 6 ∷ 6 ∷ 6 ∷ 1 ∷ 2 ∷ 3 ∷ 4 ∷ []

pub record OrdersOfNumbers : Type 0 where
  pub prefixed :
      routed three_routes (2 ∷ 3 ∷ 4 ∷ 5 ∷ 6 ∷ 7 ∷ 8 ∷ []) ≡ Key 17 (5 ∷ 6 ∷ 5 ∷ 6 ∷ 7 ∷ 8 ∷ [])
  pub unknown : routed three_routes (5 ∷ 5 ∷ 5 ∷ 1 ∷ 2 ∷ 3 ∷ 4 ∷ []) ≡ Refused Unknown 7
  pub longest_first :
      routed (long_route ∷ short_route ∷ []) covered_by_both ≡ Key 40 (5 ∷ 5 ∷ 5 ∷ 1 ∷ 2 ∷ 3 ∷ 4 ∷ [])
  pub longest_last :
      routed (short_route ∷ long_route ∷ []) covered_by_both ≡ Key 40 (5 ∷ 5 ∷ 5 ∷ 1 ∷ 2 ∷ 3 ∷ 4 ∷ [])
  pub longest_does_not_cover : routed (long_route ∷ short_route ∷ []) covered_by_one ≡ Key 41 covered_by_one
  pub all_deleted : routed (coded_route (0 ∷ []) 1 3 (7 ∷ []) ∷ []) (0 ∷ []) ≡ Key 1 (7 ∷ [])
