use Rattle.xb_routes.proofs.ByKey.{limits-accepted, limits-refused}
use Rattle.xb_routes.proofs.laws.limits_by_key.Goals as goal

pub returns : goal.returns
returns c = record { accepted = limits-accepted; refused = limits-refused }
