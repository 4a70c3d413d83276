use Rattle.std.proofs.Common.{length, subst}
use Rattle.std.specs.Io.KnownBytes.{Appends}
use Rattle.std.proofs.KnownBytes.{Appends-trans}
use Rattle.std.proofs.lemmas.Result.{IfOk-weaker}
use Rattle.xb_parts.specs.PartDecks.{head_of, only_below, records_of_part}
use Rattle.xb_parts.proofs.WrittenParts.{deck_of_part-is}
use Rattle.xb_parts.proofs.writing.write_decks.Goals as goal

pub returns : goal.returns
returns g c =
    let table = c.args.table.now in
    let ranges = c.args.ranges.now in
    let a = g.D.PartDecks.contents c.args.decks.now in
    let b = g.D.PartDecks.contents c.write_heads.new.decks in
    let d = g.D.PartDecks.contents c.write_rows.new.decks in
    record {
      decks = IfOk-weaker c.write_rows.result _ _
          (λ loads gets. (
            gets.0,
            gets.1,
            gets.2,
            λ i h. subst (Appends (a i) (d i)) (deck_of_part-is table ranges gets.0 i h)
                (Appends-trans (a i) (b i) (d i) (only_below (length ranges) (head_of table) i) (records_of_part ranges gets.0 i)
                (c.in_default.ensures i) (gets.3 i)),
          ))
          c.write_rows.ensures.decks;
      fault = c.write_rows.ensures.fault;
    }
