use Rattle.xb_live.proofs.HeardSignals.{heard-signal}
use Rattle.xb_live.proofs.line_hearing.Hearing.hear.Goals as goal

pub returns : goal.returns
returns c =
    heard-signal c.args.register.now c.args.self.now c.args.signal c.take-given.result c.take-given.new.state c.begins-self.result c.keep.new.digits
    c.begins-self.ensures c.take-given.ensures.state c.take-given.ensures.outcome c.keep.ensures
