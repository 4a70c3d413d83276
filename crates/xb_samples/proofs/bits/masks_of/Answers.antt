use Rattle.std.proofs.Common.{◌≡◌, ◌∷◌, ◌++◌, [], rules}
use Rattle.xb_samples.specs.Samples.{masks_of}
use Rattle.xb_samples.proofs.NameLemmas.{masks_more, masks_refused, masks_whole, texts}
use Rattle.xb_samples.proofs.bits.masks_of.Goals as goal

pub loop-wire-preserved : goal.loop-wire-preserved
loop-wire-preserved c =
    let pushed : c.push.new.self.items ≡ c.loop-wire.masks.items ++ c.in-Some.mask ∷ [] = search rules in
    masks_more c.args.width c.args.names.now c.loop-wire.wire _ c.loop-wire.masks.items c.push.new.self.items c.in-Some.mask
    (masks_of c.args.width (texts c.args.names.now)) c.loop-wire-test.true c.in-Some.ensures pushed c.loop-wire.invariant

pub returns-clause-said : goal.returns-clause-said
returns-clause-said c =
    masks_whole c.args.width c.args.names.now c.loop-wire.wire c.loop-wire.masks.items (masks_of c.args.width (texts c.args.names.now))
    c.loop-wire-test.false c.loop-wire.invariant

pub returns-in-None-clause-refused : goal.returns-in-None-clause-refused
returns-in-None-clause-refused c = λ other.
    masks_refused c.args.width c.args.names.now c.loop-wire.wire _ c.loop-wire.masks.items (masks_of c.args.width (texts c.args.names.now))
    c.loop-wire-test.true c.in-None.ensures c.loop-wire.invariant
