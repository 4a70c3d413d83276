use Rattle.std.proofs.Common.{ap, ◌∙◌, Ok, Err, Result, IfOk, subst, sym}
use Rattle.xb_calls.specs.Dialling.{in_order}
use Rattle.xb_calls.specs.Heard.{AreDialled}
use Rattle.xb_calls.proofs.HeardNumbers.{dialled_is_heard}
use Rattle.xb_calls.proofs.RowsOfLines.{orders_are_dialled}
use Rattle.xb_calls.proofs.line_rows.rows_of_calls.Goals as goal

-- what follows from what a call ensures of its value
if_ok : {T E : Type 0} {P Q : T → Type 0} (r : Result T E) → ((x : T) → P x → Q x) → IfOk r P → IfOk r Q
if_ok (Ok x) then h = then x h
if_ok (Err e) then h = tt

pub returns-clause-rows : goal.returns-clause-rows
returns-clause-rows c = if_ok c.in_order.result
    (λ rows is. is ∙ ap (in_order c.args.order) (c.in_ok-lists.ensures ∙ c.in_ok-lines.ensures.rows))
    c.in_order.ensures

pub returns-clause-lines : goal.returns-clause-lines
returns-clause-lines c =
    if_ok c.in_order.result
    (λ rows is. subst (AreDialled c.args.speed c.args.calls.now) (sym is)
    (orders_are_dialled c.args.order c.args.speed c.args.calls.now c.in_ok-lines.ensures.calls))
    (returns-clause-rows c)

pub returns-clause-heard : goal.returns-clause-heard
returns-clause-heard c =
    if_ok c.in_order.result
    (λ rows are. dialled_is_heard c.args.speed c.args.calls.now rows.items c.in_ok-lines.ensures.calls are)
    (returns-clause-lines c)
