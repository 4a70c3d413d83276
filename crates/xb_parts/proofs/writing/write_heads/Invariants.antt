use Rattle.xb_parts.specs.PartDecks.{Gets, head_of, only_below}
use Rattle.xb_parts.proofs.writing.write_heads.Given as goal

abbrev pub invariant-loop-part : goal.invariant-loop-part
invariant-loop-part g l =
    Gets (only_below l.part (head_of l.table)) (g.D.PartDecks.contents l.initial.decks) (g.D.PartDecks.contents l.decks)
