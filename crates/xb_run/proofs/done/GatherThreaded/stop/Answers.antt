use Rattle.std.proofs.Common.{refl}
use Rattle.xb_run.proofs.Promises.{gather_stopped}
use Rattle.xb_run.proofs.done.GatherThreaded.stop.Goals as goal

pub returns : goal.returns
returns g c =
    let e = c.into_ends-consumers.ensures in
    gather_stopped g.T.Ending.ending c.args.self _ e.consumers e.producer refl
