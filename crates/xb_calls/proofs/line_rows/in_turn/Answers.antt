use Rattle.std.proofs.Common.{◌≡◌, ◌≢◌, ◌<◌, length, vec_len, sym, arith, eqb-true}
use Rattle.std.proofs.lemmas.Bool.{eqb-false}
use Rattle.std.proofs.lemmas.List.{length-map}
use Rattle.xb_calls.specs.LineRows.{lists_of}
use Rattle.xb_calls.proofs.Turns.{turn-smaller, turn-more, turn-last}
use Rattle.xb_calls.proofs.line_rows.in_turn.Goals as goal

pub loop-alloc-smaller : goal.loop-alloc-smaller
loop-alloc-smaller c =
    let refs = c.loop-alloc.left.items in
    let none : vec_len c.loop-alloc.left ≢ 0 = eqb-false _ _ (sym c.loop-alloc-test.ensures) in
    let some : 0 < length (lists_of refs) = omega (arith, none, length-map refs (λ list. list.now)) in
    let left = c.in_ok-left.ensures.left_is in
    turn-smaller (lists_of refs) (lists_of c.in_ok-left.left.items) some (rw c.deref.ensures.value at left)

pub loop-alloc-preserved : goal.loop-alloc-preserved
loop-alloc-preserved c =
    let refs = c.loop-alloc.left.items in
    let rows = c.in_ok-left.ensures.rows in
    let left = c.in_ok-left.ensures.left_is in
    turn-more (lists_of refs) (lists_of c.in_ok-left.left.items) c.loop-alloc.rows.items
    c.take_round.new.rows.items _
    c.loop-alloc.invariant (rw c.deref.ensures.value at rows) (rw c.deref.ensures.value at left)

pub returns : goal.returns
returns c =
    let refs = c.loop-alloc.left.items in
    let none : vec_len c.loop-alloc.left ≡ 0 = eqb-true _ _ (sym c.loop-alloc-test.ensures) in
    let empty : length (lists_of refs) ≡ 0 = omega (arith, none, length-map refs (λ list. list.now)) in
    turn-last (lists_of refs) c.loop-alloc.rows.items _ c.loop-alloc.invariant empty
