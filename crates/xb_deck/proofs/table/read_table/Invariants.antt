use Rattle.std.proofs.Common.{◌+◌, ◌-◌, length}
use Rattle.xb_deck.specs.Tables.{IsReadSoFar}
use Rattle.xb_deck.proofs.TableLines.{HasNoEnd}
use Rattle.xb_deck.proofs.table.read_table.Given as goal

abbrev pub invariant-loop-reader : goal.invariant-loop-reader
invariant-loop-reader g l = record {
  so_far : IsReadSoFar (g.R.Read.remaining l.fn.reader) l.table.items l.line.items (g.R.Read.remaining l.reader);
  no_end : HasNoEnd l.line.items;
}

abbrev pub decreases-loop-reader : goal.decreases-loop-reader
decreases-loop-reader g l = l.reach + 1 - (length l.table.items + length l.line.items)
