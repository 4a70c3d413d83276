use Rattle.std.proofs.Common.{◌≤◌, ◌-◌, length}
use Rattle.xb_deck.proofs.Lines.{IsRestCut}
use Rattle.xb_deck.proofs.deck.Deck.cut.Given as goal

abbrev pub invariant-loop-length : goal.invariant-loop-length
invariant-loop-length l = record {
  within : l.start ≤ length l.bytes;
  rest : IsRestCut l.bytes l.start;
}

abbrev pub decreases-loop-length : goal.decreases-loop-length
decreases-loop-length l = length l.bytes - l.start
