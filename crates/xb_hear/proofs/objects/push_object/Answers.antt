use Rattle.std.proofs.Common.{◌≡◌, ◌++◌, codes, false, ap, string_bytes, ◌∙◌}
use Rattle.serde_json.specs.Data.{Data}
use Rattle.serde_json.specs.View.{view}
use Rattle.serde_json.specs.Written.{compact_text, has_float}
use Rattle.xb_heard.specs.Attempts.{attempt_in}
use Rattle.xb_hear.specs.Objects.{attempt_object}
use Rattle.xb_hear.proofs.ObjectValues.{no-floats}
use Rattle.xb_report.proofs.Pushed.{as_defined, str}
use Rattle.xb_hear.proofs.objects.push_object.Goals as goal

pub returns : goal.returns
returns c =
    let told : Data = attempt_object c.args.before c.args.limits c.args.line c.args.number (attempt_in c.args.attempt.now) in
    let is : view c.in_ok-object.object ≡ told = c.in_ok-object.ensures in
    let none : has_float (view c.in_ok-object.object) ≡ false =
    ap has_float is ∙ no-floats c.args.before c.args.limits c.args.line c.args.number (attempt_in c.args.attempt.now) in
    let line : string_bytes c.in_ok-text.text ≡ compact_text told ++ codes "\n" =
    c.in_ok-text.ensures.text none ∙ ap (λ value. compact_text value ++ codes "\n") is in
    as_defined c.push_str.result (string_bytes c.args.out.now) _ c.deref.result.now _
    (str c.push_str.result (string_bytes c.args.out.now) _ c.deref.result.now c.push_str.ensures.bytes) (c.deref.ensures ∙ line)
