use Rattle.std.proofs.Common.{refl, ◌∙◌}
use Rattle.xb_samples.proofs.TailLemmas.{piece_more, piece_whole}
use Rattle.xb_samples.proofs.tail.Tail.take_bytes.Goals as goal

pub loop-byte-init : goal.loop-byte-init
loop-byte-init c = record { taken = λ text. refl; known = refl }

pub loop-byte-preserved : goal.loop-byte-preserved
loop-byte-preserved c = record {
  taken = piece_more c.args.self.now c.loop-byte.self c.take_byte.new.self c.args.bytes.now c.loop-byte.byte-index
      c.loop-byte-test.true c.in_ok-take_byte.ensures.taken c.loop-byte.invariant.taken;
  known = c.take_byte.ensures.known ∙ c.loop-byte.invariant.known;
}

pub returns-clause-taken : goal.returns-clause-taken
returns-clause-taken c =
    piece_whole c.args.self.now c.loop-byte.self c.args.bytes.now c.loop-byte.byte-index c.loop-byte-test.false
    c.loop-byte.invariant.taken
