-- The table that plain numbers say.
use Rattle.std.specs.Prelude.{◌≡◌, ℕ, ◌≤◌, take, Some, IsSome}
use Rattle.xb_model.specs.declared.plan.Plan.{Plan}
use Rattle.xb_model.specs.declared.plan.Plan.TheVariants.{Seven, Ten}
use Rattle.xb_model.specs.LawfulLimits.{IsLawful}
use Rattle.xb_model.specs.Plans.{plan_of_digits}
use Rattle.xb_routes.specs.declared.table.TheConstants.{MOST_ROUTES}
use Rattle.xb_routes.specs.Table.{Table}
use Rattle.xb_structs.specs.declared.table.PlainTable.{PlainTable}
use Rattle.xb_structs.specs.Routes.{AreRoutes}

abbrev pub plan_number : Plan → ℕ
plan_number Seven = 7
plan_number Ten = 10

-- it may have been opened: it has a plan, lawful limits, and no more routes than a table may
pub record IsOpen (table : PlainTable) : Type 0 where
  pub plan : IsSome (plan_of_digits table.plan)
  pub limits : IsLawful table.limits
  pub count : table.count ≤ MOST_ROUTES

-- it says what the route table says
pub record Holds (plain : PlainTable) (table : Table) : Type 0 where
  pub plan : plan_of_digits plain.plan ≡ Some table.plan
  pub limits : plain.limits ≡ table.limits
  pub lawful : IsLawful table.limits
  pub count : plain.count ≤ MOST_ROUTES
  pub routes : AreRoutes (take plain.count plain.routes) table.routes
