use Rattle.std.proofs.Common.{◌≡◌, List, length}
use Rattle.xb_model.specs.Rows.{LoopRow}
use Rattle.xb_parts.specs.PartDecks.{Gets, records_of_part}
use Rattle.xb_parts.specs.Counts.{AreLoadsOf}
use Rattle.xb_parts.specs.RowStreams.{HasGiven}
use Rattle.xb_parts.proofs.writing.write_rows.Given as goal

abbrev pub invariant-loop : goal.invariant-loop
invariant-loop g l =
    (rows : List LoopRow) × (length rows ≡ l.counter) × HasGiven rows l.initial.rows l.rows × AreLoadsOf rows l.loads
    × Gets (records_of_part l.ranges rows) (g.D.PartDecks.contents l.initial.decks) (g.D.PartDecks.contents l.decks)
