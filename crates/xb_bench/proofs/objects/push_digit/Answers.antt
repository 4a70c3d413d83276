use Rattle.std.proofs.Common.{◌≡◌, ◌++◌, codes, false, ap, string_bytes, ◌∙◌}
use Rattle.serde_json.specs.Data.{Data}
use Rattle.serde_json.specs.View.{view}
use Rattle.serde_json.specs.Written.{compact_text, has_float}
use Rattle.xb_bench.specs.Objects.{digit_object}
use Rattle.xb_bench.proofs.ObjectValues.{none-in-digit}
use Rattle.xb_report.proofs.Pushed.{as_defined, str}
use Rattle.xb_bench.proofs.objects.push_digit.Goals as goal

pub returns : goal.returns
returns c =
    let told : Data = digit_object c.args.setting c.args.line c.args.scale c.args.ended c.args.train.now c.args.bounce in
    let is : view c.in_ok-object.object ≡ told = c.in_ok-object.ensures in
    let none : has_float (view c.in_ok-object.object) ≡ false = ap has_float is ∙ none-in-digit c.args.setting c.args.line c.args.scale c.args.ended c.args.train.now c.args.bounce in
    let line : string_bytes c.in_ok-text.text ≡ compact_text told ++ codes "\n" =
    c.in_ok-text.ensures.text none ∙ ap (λ value. compact_text value ++ codes "\n") is in
    as_defined c.push_str.result (string_bytes c.args.out.now) _ c.deref.result.now _
    (str c.push_str.result (string_bytes c.args.out.now) _ c.deref.result.now c.push_str.ensures.bytes) (c.deref.ensures ∙ line)
