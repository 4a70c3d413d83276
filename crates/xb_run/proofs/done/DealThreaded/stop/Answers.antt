use Rattle.std.proofs.Common.{refl}
use Rattle.xb_run.proofs.Promises.{deal_stopped}
use Rattle.xb_run.proofs.done.DealThreaded.stop.Goals as goal

pub returns : goal.returns
returns g c =
    let e = c.into_ends-consumer.ensures in
    deal_stopped c.args.self _ e.consumer e.producers refl
