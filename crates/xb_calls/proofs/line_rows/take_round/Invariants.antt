use Rattle.std.proofs.Common.{take}
use Rattle.xb_calls.specs.LineRows.{Takes, lists_of}
use Rattle.xb_calls.proofs.line_rows.take_round.Given as goal

abbrev pub invariant-loop-list : goal.invariant-loop-list
invariant-loop-list l =
    Takes (lists_of (take l.list-index l.lists)) l.initial.rows.items l.rows.items (lists_of l.left.items)
