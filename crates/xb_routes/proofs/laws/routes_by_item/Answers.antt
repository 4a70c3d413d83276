use Rattle.xb_routes.proofs.ByItem.{accepted, refused-by, refused-many}
use Rattle.xb_routes.proofs.laws.routes_by_item.Goals as goal

pub returns : goal.returns
returns c = record { accepted = accepted; refused = refused-by; too_many = refused-many }
