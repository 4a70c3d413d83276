use Rattle.std.proofs.Common.{◌≡◌, ◌++◌, codes, false, ap, ◌∙◌}
use Rattle.std.proofs.lemmas.Result.{IfOk-weaker}
use Rattle.serde_json.specs.View.{view}
use Rattle.serde_json.specs.Written.{compact_text, has_float}
use Rattle.xb_clock.specs.Clocks.{text_in}
use Rattle.xb_clock.specs.Objects.{with_time}
use Rattle.xb_live.specs.Objects.{timed_mark}
use Rattle.xb_live.proofs.ObjectValues.{timed-no-floats-in-mark}
use Rattle.xb_live.proofs.entry_text.mark_object_line.Goals as goal

pub returns : goal.returns
returns c =
    let time = text_in c.args.time.now in
    let is : view c.in_ok-object-2.object ≡ timed_mark time c.args.line c.args.number c.args.at c.args.mark.now =
    c.in_ok-object-2.ensures ∙ ap (with_time (codes "at") time) c.in_ok-object.ensures in
    let none : has_float (view c.in_ok-object-2.object) ≡ false
    = ap has_float is ∙ timed-no-floats-in-mark time c.args.line c.args.number c.args.at c.args.mark.now in
    IfOk-weaker c.line_of.result _ _ (λ line text. text none ∙ ap (λ value. compact_text value ++ codes "\n") is) c.line_of.ensures.text
