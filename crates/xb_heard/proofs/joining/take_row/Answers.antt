use Rattle.std.proofs.Common.{◌≡◌, rules, true, arith}
use Rattle.xb_model.specs.Records.{is_close}
use Rattle.xb_heard.proofs.JoinedAfter.{closed-by}
use Rattle.xb_heard.proofs.joining.take_row.Goals as goal

pub returns-then-eq-clause-runs : goal.returns-then-eq-clause-runs
returns-then-eq-clause-runs c = λ rows.
    let close : is_close c.contact-contact.result ≡ true = first_of (search (rules, c.if-eq.ensures, c.eq.ensures), grind (arith, c.if-eq.ensures, c.eq.ensures)) in
    closed-by c.args.runs.now.items c.args.closed.now c.args.number c.args.row rows (rw c.contact-contact.ensures at close)
