use Rattle.std.proofs.Common.{codes, refl}
use Rattle.xb_parts.specs.PartDecks.{head_of}
use Rattle.xb_parts.proofs.WrittenParts.{Gets-more, Gets-next}
use Rattle.xb_parts.proofs.writing.write_heads.Goals as goal

pub loop-part-preserved : goal.loop-part-preserved
loop-part-preserved g c =
    let table = c.args.table.now in
    let part = c.loop-part.part in
    let old = g.D.PartDecks.contents c.args.decks.now in
    let a = g.D.PartDecks.contents c.loop-part.decks in
    let b = g.D.PartDecks.contents c.write.new.self in
    let d = g.D.PartDecks.contents c.write-in-loop-part.new.self in
    Gets-next (λ i. head_of table) (head_of table) part old a d refl c.loop-part.invariant
    (Gets-more part table (codes "---\nline,state,ms\n") a b d c.in_ok-write.ensures c.in_ok-write-2.ensures)
