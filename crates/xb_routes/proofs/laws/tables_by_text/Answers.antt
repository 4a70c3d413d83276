use Rattle.xb_routes.proofs.ByText.{text-accepted, text-refused}
use Rattle.xb_routes.proofs.laws.tables_by_text.Goals as goal

pub returns : goal.returns
returns c = record { accepted = text-accepted; refused = text-refused }
