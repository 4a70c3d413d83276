use Rattle.std.proofs.Common.{set, refl}
use Rattle.xb_live.specs.declared.hearings.Hearings.{Hearings}
use Rattle.xb_live.proofs.HeardLines.{heard-more, heard-signals}
use Rattle.xb_live.proofs.hearings.Hearings.take.Goals as goal

pub returns-clause-signals : goal.returns-clause-signals
returns-clause-signals c =
    heard-signals c.args.self.now c.args.row c.line.result c.get_mut.result.now c.take.result.items
    c.get_mut.ensures.below c.line.ensures (c.get_mut.ensures.value c.get_mut.result.now) c.take.ensures.signals

pub returns-clause-heard : goal.returns-clause-heard
returns-clause-heard c =
    let after : Hearings = record { limits = c.args.self.now.limits; plan = c.args.self.now.plan; lines = set c.args.self.now.lines c.line.result c.take.new.self } in
    heard-more c.args.self.now after c.args.row c.line.result c.get_mut.result.now c.take.new.self refl refl refl
    c.get_mut.ensures.lines c.get_mut.ensures.below c.line.ensures (c.get_mut.ensures.value c.get_mut.result.now) c.take.ensures.next
