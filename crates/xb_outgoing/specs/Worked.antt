-- What the definitions give at worked tables.
use Rattle.std.specs.Prelude.{◌≡◌, ℕ, List, [], ◌∷◌, ◌++◌, codes, Ok, Err}
use Rattle.xb_model.specs.declared.dialled.Dialled.TheVariants as dialled
use Rattle.xb_model.specs.declared.order.Order.TheVariants as orders
use Rattle.xb_model.specs.declared.plan.Plan.TheVariants.{Seven}
use Rattle.xb_model.specs.declared.reason.Reason.TheVariants.{Abandoned, Unknown}
use Rattle.xb_model.specs.LawfulLimits.{standard_limits}
use Rattle.xb_model.specs.Routing.{CodedRoute, coded_route}
use Rattle.xb_routes.specs.declared.fault.RouteFault.TheVariants as route_fault
use Rattle.xb_routes.specs.Text.{table_by}
use Rattle.xb_outgoing.specs.declared.fault.OutgoingFault.TheVariants as fault
use Rattle.xb_outgoing.specs.Tables.{Outgoing, outgoing, outgoing_of_text, outgoing_order}

-- a route of trunk group 30, one of 31, and the operator on 30, each with more lines
abbrev pub first : List ℕ → List ℕ
first lines = codes "[[route]]\ncode = \"234\"\ntrunk = 30\n" ++ lines

abbrev pub second : List ℕ → List ℕ
second lines = codes "[[route]]\ncode = \"411\"\ntrunk = 31\n" ++ lines

abbrev pub third : List ℕ → List ℕ
third lines = codes "[[route]]\ncode = \"0\"\ntrunk = 30\n" ++ lines

abbrev pub dp : List ℕ
dp = codes "send = \"dp\"\n"

abbrev pub routes : List CodedRoute
routes =
    coded_route (2 ∷ 3 ∷ 4 ∷ []) 30 0 [] ∷ coded_route (4 ∷ 1 ∷ 1 ∷ []) 31 0 []
    ∷ coded_route (0 ∷ []) 30 0 [] ∷ []

pub record ReadsTables : Type 0 where
  pub empty : outgoing_of_text (codes "") ≡ Ok (outgoing (table_by [] Seven standard_limits) [])
  pub none : outgoing_of_text (first [] ++ (second [] ++ third []))
      ≡ Ok (outgoing (table_by routes Seven standard_limits) [])
  pub one : outgoing_of_text (first [] ++ (second dp ++ third []))
      ≡ Ok (outgoing (table_by routes Seven standard_limits) (31 ∷ []))
  pub two : outgoing_of_text (first dp ++ (second [] ++ third dp))
      ≡ Ok (outgoing (table_by routes Seven standard_limits) (30 ∷ 30 ∷ []))
  pub another_text : outgoing_of_text (first [] ++ second (codes "send = \"mf\"\n")) ≡ Err (fault.Send 2)
  pub in_capitals : outgoing_of_text (first (codes "send = \"DP\"\n")) ≡ Err (fault.Send 1)
  pub another_type : outgoing_of_text (first (codes "send = true\n")) ≡ Err (fault.Send 1)
  pub then_keyed : outgoing_of_text (first dp ++ (second dp ++ third [])) ≡ Err (fault.Differs 3)
  pub then_pulsed : outgoing_of_text (first [] ++ (second [] ++ third dp)) ≡ Err (fault.Differs 3)
  pub table_first : outgoing_of_text (first (codes "send = 1\n") ++ codes "[[route]]\ncode = \"23\"\ntrunk = 1\n")
      ≡ Err (fault.Routes (route_fault.Code 2))

-- routes that delete the first six digits: of 234 to trunk group 30, which takes dial pulses, with 9 before the others
-- those of 235, and of 236 to trunk group 31, which takes MF
abbrev pub shortening : Outgoing
shortening = outgoing (table_by
    (coded_route (2 ∷ 3 ∷ 4 ∷ []) 30 6 [] ∷ coded_route (2 ∷ 3 ∷ 5 ∷ []) 30 6 (9 ∷ [])
    ∷ coded_route (2 ∷ 3 ∷ 6 ∷ []) 31 6 [] ∷ []) Seven standard_limits) (30 ∷ 30 ∷ [])

pub record GivesOrders : Type 0 where
  pub no_digits : outgoing_order shortening (dialled.Number (2 ∷ 3 ∷ 4 ∷ [])) ≡ orders.Refused Unknown 3
  pub all_deleted : outgoing_order shortening (dialled.Number (2 ∷ 3 ∷ 4 ∷ 5 ∷ 6 ∷ 7 ∷ []))
      ≡ orders.Refused Unknown 6
  pub one_left : outgoing_order shortening (dialled.Number (2 ∷ 3 ∷ 4 ∷ 5 ∷ 6 ∷ 7 ∷ 8 ∷ []))
      ≡ orders.Key 30 (8 ∷ [])
  pub prefix_alone : outgoing_order shortening (dialled.Number (2 ∷ 3 ∷ 5 ∷ [])) ≡ orders.Key 30 (9 ∷ [])
  pub in_mf : outgoing_order shortening (dialled.Number (2 ∷ 3 ∷ 6 ∷ [])) ≡ orders.Key 31 []
  pub unknown : outgoing_order shortening (dialled.Number (5 ∷ 5 ∷ [])) ≡ orders.Refused Unknown 2
  pub refused : outgoing_order shortening (dialled.Refused Abandoned 4) ≡ orders.Refused Abandoned 4
