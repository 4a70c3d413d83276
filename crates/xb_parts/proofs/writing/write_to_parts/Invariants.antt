use Rattle.std.proofs.Common.{◌∷◌, []}
use Rattle.xb_parts.specs.PartDecks.{Gets, records_of_part}
use Rattle.xb_parts.proofs.WrittenParts.{only_before}
use Rattle.xb_parts.proofs.writing.write_to_parts.Given as goal

abbrev pub invariant-loop-part : goal.invariant-loop-part
invariant-loop-part g l =
    Gets (only_before l.part (records_of_part l.ranges (l.row ∷ []))) (g.D.PartDecks.contents l.initial.decks)
    (g.D.PartDecks.contents l.decks)
