use Rattle.xb_deck.proofs.Lines.{cut-here, no-cut_here, no-cut}
use Rattle.xb_deck.proofs.deck.Deck.cut.Goals as goal

pub returns-then-is_cut : goal.returns-then-is_cut
returns-then-is_cut c = cut-here c.args.bytes.now c.loop-length.start c.in-Some.length c.loop-length.invariant.rest c.in-Some.ensures c.if-is_cut.ensures

pub loop-length-preserved : goal.loop-length-preserved
loop-length-preserved c =
    let next = no-cut_here c.args.bytes.now c.loop-length.start c.in-Some.length c.loop-length.invariant.rest c.in-Some.ensures c.if-is_cut.ensures in
    record { within = next.0; rest = next.1 }

pub returns-else-is_cut-2 : goal.returns-else-is_cut-2
returns-else-is_cut-2 c = no-cut c.args.bytes.now c.loop-length.start c.loop-length.invariant.rest c.in_default.ensures c.if-is_cut-2.ensures
