use Rattle.std.proofs.Common.{string_bytes}
use Rattle.xb_rx.specs.Shown.{shown}
use Rattle.xb_rx.proofs.PartSteps.{completed-shows}
use Rattle.xb_rx.proofs.parts.Parts.complete.Goals as goal

pub returns-clause-text : goal.returns-clause-text
returns-clause-text c =
    completed-shows (shown c.args.self.now) (shown c.keep.new.self) c.take.new.self c.args.key c.deref.result.now
    (string_bytes c.args.out.now) (string_bytes c.take.new.out) c.in_ok-keep.ensures.kept c.deref.ensures.value
    c.in_ok-take.ensures
