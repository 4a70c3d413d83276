use Rattle.xb_run.proofs.Promises.{gather_promised}
use Rattle.xb_run.proofs.done.GatherThreaded.serve_out.Goals as goal

pub returns : goal.returns
returns g c =
    let s = c.serve.ensures in
    let e = c.into_ends-consumers.ensures in
    gather_promised g.T.Ending.ending c.args.self c.serve.new.self _ s.ends e.consumers e.producer (λ yes. (s.lawful, s.served))
