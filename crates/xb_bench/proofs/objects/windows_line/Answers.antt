use Rattle.std.proofs.Common.{◌≡◌, ◌++◌, codes, false, ap, ◌∙◌}
use Rattle.std.proofs.lemmas.Result.{IfOk-weaker}
use Rattle.serde_json.specs.Data.{Data}
use Rattle.serde_json.specs.View.{view}
use Rattle.serde_json.specs.Written.{compact_text, has_float}
use Rattle.xb_bench.specs.Objects.{windows_object}
use Rattle.xb_bench.proofs.ObjectValues.{none-in-windows}
use Rattle.xb_bench.proofs.objects.windows_line.Goals as goal

pub returns : goal.returns
returns c =
    let told : Data = windows_object c.args.windows in
    let is : view c.in_ok-object.object ≡ told = c.in_ok-object.ensures in
    let none : has_float (view c.in_ok-object.object) ≡ false = ap has_float is ∙ none-in-windows c.args.windows in
    IfOk-weaker c.line_of.result _ _ (λ line text. text none ∙ ap (λ value. compact_text value ++ codes "\n") is)
    c.line_of.ensures.text
