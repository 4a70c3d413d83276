use Rattle.std.proofs.Common.{◌≡◌, ◌+◌, ◌≤◌, ◌<◌, length}
use Rattle.std.specs.Prelude.{option_copied}
use Rattle.xb_page.specs.Places.{text_line, line_feed}
use Rattle.xb_page.specs.ReadPages.{after, entries_from, entries_of_page}
use Rattle.xb_text.specs.Pieces.{pieces_left}
use Rattle.xb_page.proofs.reading.page_entries.Given as goal

abbrev pub invariant-loop-left : goal.invariant-loop-left
invariant-loop-left l = record {
  entries :
      entries_of_page l.fn.page
      ≡ after l.entries.items (entries_from l.place (pieces_left line_feed (option_copied l.left)));
  lines : text_line l.place + length (pieces_left line_feed (option_copied l.left)) ≤ length l.fn.page + 2;
  numbers : l.place.entries < text_line l.place;
}

abbrev pub decreases-loop-left : goal.decreases-loop-left
decreases-loop-left l = length (pieces_left line_feed (option_copied l.left))
