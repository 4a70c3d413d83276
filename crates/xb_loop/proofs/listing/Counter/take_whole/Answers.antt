use Rattle.std.proofs.lemmas.Result.{on_ok_weaker}
use Rattle.xb_loop.proofs.Counting.{whole_rest}
use Rattle.xb_loop.proofs.listing.Counter.take_whole.Goals as goal

pub returns : goal.returns
returns g c =
    on_ok_weaker c.end.result
    (λ rest. whole_rest c.args.self.now c.take.new.self c.take_all.new.self c.args.beginning.now
    (g.R.Read.remaining c.args.input.now) (g.R.Read.remaining c.take_all.new.input) c.end.new.self.counts.seen.items
    c.in_ok-take.ensures c.in_ok-take_all.ensures.counted c.in_ok-take_all.ensures.end rest)
    c.end.ensures
