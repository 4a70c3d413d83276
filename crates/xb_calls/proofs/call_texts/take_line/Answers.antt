use Rattle.std.proofs.Common.{◌≡◌, ◌++◌, ◌∷◌, [], sym, subst, rules}
use Rattle.xb_calls.specs.TextLines.{TakesLine}
use Rattle.xb_calls.proofs.TextLines.{passes_over, stops_by, takes_call}
use Rattle.xb_calls.proofs.call_texts.take_line.Goals as goal

pub returns-then-is_passed_over-clause-taken : goal.returns-then-is_passed_over-clause-taken
returns-then-is_passed_over-clause-taken c =
    passes_over c.args.whole c.args.n c.args.line.now c.args.calls.now.items (sym c.if-is_passed_over.ensures)

pub returns-in_err-call-clause-fault : goal.returns-in_err-call-clause-fault
returns-in_err-call-clause-fault c =
    let stops = stops_by c.args.whole c.args.n c.args.line.now c.in_err-call.field-0.0
    (sym c.if-is_passed_over.ensures) c.in_err-call.ensures.fault in
    search rules

pub returns-clause-taken : goal.returns-clause-taken
returns-clause-taken c =
    let items : c.push.new.self.items ≡ c.args.calls.now.items ++ c.in_ok-call.call ∷ [] = search rules in
    subst (TakesLine c.args.whole c.args.n c.args.line.now c.args.calls.now.items) (sym items)
    (takes_call c.args.whole c.args.n c.args.line.now c.args.calls.now.items c.in_ok-call.call
    (sym c.if-is_passed_over.ensures) c.in_ok-call.ensures.call)
