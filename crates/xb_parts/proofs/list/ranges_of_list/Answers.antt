use Rattle.std.proofs.Common.{◌∙◌, List, ℕ, ap, sym}
use Rattle.std.specs.Prelude.{option_copied}
use Rattle.xb_parts.specs.Lists.{line_feed, ranges_of_lines, with_earlier}
use Rattle.xb_text.specs.Pieces.{pieces_left}
use Rattle.xb_parts.proofs.ListLines.{no_range}
use Rattle.xb_parts.proofs.list.ranges_of_list.Goals as goal

pub returns-in-None-clause-fault : goal.returns-in-None-clause-fault
returns-in-None-clause-fault c =
    let ranges = c.loop-left.ranges.items in
    let later : List (List ℕ) = pieces_left line_feed (option_copied c.first_piece.result.1) in
    let none = no_range c.in-Some.lines.now c.first_piece.result.0.now later c.first_piece.ensures (sym c.is_empty.ensures ∙ c.if-is_empty.false)
    (sym c.in-None.is ∙ c.range_of_line.ensures) in
    c.loop-left.invariant
    ∙ ap (λ o. with_earlier ranges (ranges_of_lines (pieces_left line_feed (option_copied o)))) c.in-Some.is
    ∙ ap (λ lines. with_earlier ranges (ranges_of_lines lines)) c.first_piece.ensures
    ∙ ap (with_earlier ranges) none
