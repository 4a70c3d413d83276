use Rattle.xb_routes.proofs.Translating.{image-machine}
use Rattle.xb_routes.proofs.translate.Translate.new.Goals as goal

pub returns-clause-orders : goal.returns-clause-orders
returns-clause-orders c = image-machine c.args.table.now.routes
