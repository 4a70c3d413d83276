use Rattle.std.proofs.Common.{◌∙◌, ◌<◌, ◌++◌, ap}
use Rattle.std.proofs.lemmas.Result.{IfOk-weaker}
use Rattle.xb_model.specs.declared.line.TheConstants.{LINES}
use Rattle.xb_tandem.proofs.OneCall.{one-call-is}
use Rattle.xb_tandem.proofs.pulses.rows_alone.Goals as goal

pub returns : goal.returns
returns c =
    let below : c.args.line < LINES = search c.well_formed in
    IfOk-weaker c.rows_of_calls.result _ _
    (λ rows is. one-call-is c.args.line c.args.sent.now c.extend_from_slice.new.self.items c.ten.result c.new.result rows.items below
    c.ten.ensures.value c.new.ensures
    (c.in_ok-extend_from_slice.ensures.items ∙ ap (λ items. items ++ c.args.sent.now) c.new-digits.ensures.items) is)
    c.rows_of_calls.ensures.rows
