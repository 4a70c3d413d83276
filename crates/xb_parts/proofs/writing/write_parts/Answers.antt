use Rattle.std.proofs.Common.{[], append-nil, subst}
use Rattle.std.specs.Io.KnownBytes.{Appends}
use Rattle.std.proofs.KnownBytes.{Appends-trans}
use Rattle.xb_parts.specs.PartDecks.{deck_of_part}
use Rattle.xb_parts.proofs.writing.write_parts.Goals as goal

pub returns-in-Ok-clause-decks : goal.returns-in-Ok-clause-decks
returns-in-Ok-clause-decks g c =
    let table = c.args.table.now in
    let ranges = c.args.ranges.now in
    let gets = c.in_ok-loads.ensures.decks in
    let a = g.D.PartDecks.contents c.args.decks.now in
    let b = g.D.PartDecks.contents c.write_decks.new.decks in
    let d = g.D.PartDecks.contents c.keep.new.self in (
      gets.0,
      gets.1,
      gets.2,
      λ i h. subst (Appends (a i) (d i)) (append-nil (deck_of_part table ranges gets.0 i))
          (Appends-trans (a i) (b i) (d i) (deck_of_part table ranges gets.0 i) [] (gets.3 i h) (c.in-Ok.ensures.same i)),
    )
