use Rattle.xb_run.proofs.Promises.{deal_promised}
use Rattle.xb_run.proofs.done.DealThreaded.serve_out.Goals as goal

pub returns : goal.returns
returns g c =
    let s = c.serve.ensures in
    let e = c.into_ends-consumer.ensures in
    deal_promised c.args.self c.serve.new.self _ s.ends e.consumer e.producers (λ yes. s.served)
