-- What a route table says.
use Rattle.std.specs.Prelude.{List}
use Rattle.xb_model.specs.declared.limits.Limits.{Limits}
use Rattle.xb_model.specs.declared.plan.Plan.{Plan}
use Rattle.xb_model.specs.Routing.{CodedRoute}

-- the routes in the order of the text, how long numbers are, and the limits of their pulses
pub record Table : Type 0 where
  pub routes : List CodedRoute
  pub plan : Plan
  pub limits : Limits
