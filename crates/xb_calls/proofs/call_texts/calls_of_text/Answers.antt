use Rattle.std.proofs.Common.{ℕ, ◌+◌, List, map, Option, Result, sym, ap, ◌∙◌, arith}
use Rattle.std.specs.Prelude.{option_copied}
use Rattle.std.specs.Str.Lines.{strip_carriage_return}
use Rattle.xb_model.specs.declared.plan.Plan.{Plan}
use Rattle.xb_calls.specs.declared.fault.CallFault.{CallFault}
use Rattle.xb_calls.specs.CallTexts.{calls_from}
use Rattle.xb_calls.specs.Calls.{DialledCall}
use Rattle.xb_calls.specs.Lists.{line_feed}
use Rattle.xb_calls.specs.TextLines.{after}
use Rattle.xb_text.specs.Pieces.{pieces, pieces_left}
use Rattle.xb_calls.proofs.TextLines.{after-none, calls_from-none, few-lines, numbers_are_complete}
use Rattle.xb_calls.proofs.call_texts.calls_of_text.Goals as goal

-- the calls of the text lines of a text
abbrev calls_in : Option Plan → List ℕ → Result (List DialledCall) CallFault
calls_in whole text = calls_from whole 1 (map strip_carriage_return (pieces line_feed text))

pub loop-left-init : goal.loop-left-init
loop-left-init c =
    let plain = c.without_mark-plain.result.now in
    let all = calls_in c.args.whole plain in
    let few = few-lines plain in
    let short = c.without_mark-plain.ensures.short in
    record {
      calls = ap (calls_in c.args.whole) (sym c.without_mark-plain.ensures.text)
          ∙ sym (ap (λ calls. after calls all) c.new-calls.ensures.items ∙ after-none all);
      few = omega (arith, few, short);
    }

pub returns-clause-calls : goal.returns-clause-calls
returns-clause-calls c =
    let n = c.loop-left.n + 1 in
    c.loop-left.invariant.calls
    ∙ ap (λ left. after c.loop-left.calls.items
    (calls_from c.args.whole n (map strip_carriage_return (pieces_left line_feed (option_copied left)))))
    c.in_default.is
    ∙ calls_from-none c.args.whole n c.loop-left.calls.items

pub returns-clause-complete : goal.returns-clause-complete
returns-clause-complete c = numbers_are_complete c.args.whole c.args.text.now _ (returns-clause-calls c)
