use Rattle.std.proofs.Common.{◌≡◌, take}
use Rattle.xb_calls.specs.Dialling.{joined_lists}
use Rattle.xb_calls.specs.LineRows.{lists_of}
use Rattle.xb_calls.proofs.line_rows.joined.Given as goal

abbrev pub invariant-loop-list : goal.invariant-loop-list
invariant-loop-list l = l.rows.items ≡ joined_lists (lists_of (take l.list-index l.lists))
