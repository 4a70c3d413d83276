use Rattle.std.proofs.Common.{◌≡◌, ◌∙◌, Some, ap, sym, subst, rules}
use Rattle.xb_model.specs.declared.order.Order.{Order}
use Rattle.xb_model.specs.Numbers.{shortest_complete}
use Rattle.xb_route.specs.Answers.{sent_as}
use Rattle.xb_route.specs.Pages.{AgreesWithPage}
use Rattle.xb_route.proofs.Sent.{agrees}
use Rattle.xb_route.proofs.answer.answer_to.Goals as goal

pub returns-in-Some-clause-page : goal.returns-in-Some-clause-page
returns-in-Some-clause-page c =
    let table = c.args.table.now in
    let found : shortest_complete table.table.plan c.args.digits.now ≡ Some c.in-Some.number = search rules in
    let order = c.order_of_number-order.ensures in
    subst (AgreesWithPage table) (sym (c.sent_as.ensures ∙ ap (λ (o : Order). sent_as table.pulsed c.in-Some.number o) order))
    (agrees table c.args.digits.now c.in-Some.number found)
