use Rattle.std.proofs.Common.{◌≡◌, ◌++◌}
use Rattle.xb_calls.specs.Dialling.{in_turn}
use Rattle.xb_calls.specs.LineRows.{lists_of}
use Rattle.xb_calls.proofs.Turns.{items_and_lists}
use Rattle.xb_calls.proofs.line_rows.in_turn.Given as goal

abbrev pub invariant-loop-alloc : goal.invariant-loop-alloc
invariant-loop-alloc l = l.rows.items ++ in_turn (lists_of l.left.items)
    ≡ in_turn (lists_of l.initial.left.items)

abbrev pub decreases-loop-alloc : goal.decreases-loop-alloc
decreases-loop-alloc l = items_and_lists (lists_of l.left.items)
