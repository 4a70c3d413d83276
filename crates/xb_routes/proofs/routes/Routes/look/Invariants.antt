use Rattle.std.proofs.Common.{drop}
use Rattle.xb_routes.specs.declared.code.TheConstants.{CODE_LENGTHS}
use Rattle.xb_routes.proofs.Longest.{Left}
use Rattle.xb_routes.proofs.routes.Routes.look.Given as goal

abbrev pub invariant-loop-length : goal.invariant-loop-length
invariant-loop-length l = Left l.digits (drop l.length-index CODE_LENGTHS) l.self
