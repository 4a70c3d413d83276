use Rattle.std.proofs.Common.{refl}
use Rattle.xb_loop.proofs.Counting.{is_count}
use Rattle.xb_loop.proofs.listing.edges_named.Goals as goal

pub returns-in-Ok-clause-counted : goal.returns-in-Ok-clause-counted
returns-in-Ok-clause-counted g c =
    is_count _ c.args.format _ _ c.in-Ok.edges.items c.in_ok-lent.ensures refl c.in-Ok.ensures
