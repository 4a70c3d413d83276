use Rattle.std.proofs.Common.{◌≡◌, ◌++◌, codes, false, ap, ◌∙◌}
use Rattle.std.proofs.lemmas.Result.{IfOk-weaker}
use Rattle.serde_json.specs.View.{view}
use Rattle.serde_json.specs.Written.{compact_text, has_float}
use Rattle.xb_clock.specs.Clocks.{text_in}
use Rattle.xb_clock.specs.Objects.{with_time}
use Rattle.xb_live.specs.Objects.{timed_object}
use Rattle.xb_live.specs.TimedEntries.{TimedEntry, told_with}
use Rattle.xb_live.proofs.ObjectValues.{timed-no-floats}
use Rattle.xb_live.proofs.entry_text.object_line.Goals as goal

pub returns : goal.returns
returns c =
    let told : TimedEntry = told_with c.args.line c.args.number c.args.entry.now c.args.heard.now in
    let from = text_in c.args.times.now.from in
    let at = text_in c.args.times.now.at in
    let is : view c.in_ok-object-3.object ≡ timed_object from at told =
    c.in_ok-object-3.ensures
    ∙ ap (with_time (codes "from") from) (c.in_ok-object-2.ensures ∙ ap (with_time (codes "at") at) c.in_ok-object.ensures) in
    let none : has_float (view c.in_ok-object-3.object) ≡ false = ap has_float is ∙ timed-no-floats from at told in
    IfOk-weaker c.line_of.result _ _ (λ line text. text none ∙ ap (λ value. compact_text value ++ codes "\n") is) c.line_of.ensures.text
