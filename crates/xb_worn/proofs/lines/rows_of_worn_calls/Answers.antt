use Rattle.std.proofs.Common.{Err, IfOk, Ok, OnOk, Result, rules, subst, sym}
use Rattle.xb_worn.specs.Sending.{sent}
use Rattle.xb_worn.specs.SentCalls.{AreSent}
use Rattle.xb_worn.proofs.WornOrders.{orders-sent, rows-heard}
use Rattle.xb_worn.proofs.lines.rows_of_worn_calls.Goals as goal

-- what follows from two things that a call ensures
if_ok : {T E : Type 0} {P Q : T → Type 0} {A : Type 0} (r : Result T E) → ((x : T) → P x → A → Q x) → IfOk r P
    → OnOk r A
    → IfOk r Q
if_ok (Ok x) then h a = then x h a
if_ok (Err e) then h a = tt

pub returns-clause-lines : goal.returns-clause-lines
returns-clause-lines c =
    let wear = c.args.wear.now in
    let all = sent wear c.args.faults.now c.args.calls.now in
    if_ok c.rows_in_order.result
    (λ rows is low. subst (AreSent wear.speed.hang_up_ms all) (sym is)
    (orders-sent c.args.order wear.speed.hang_up_ms all low))
    c.rows_in_order.ensures.rows c.rows_in_order.ensures.lines

pub returns-clause-heard : goal.returns-clause-heard
returns-clause-heard c =
    let wear = c.args.wear.now in
    let all = sent wear c.args.faults.now c.args.calls.now in
    if_ok c.rows_in_order.result
    (λ rows are none. rows-heard wear.speed.hang_up_ms all rows.items
    (search rules) none are)
    (returns-clause-lines c) c.rows_in_order.ensures.fits
