use Rattle.std.proofs.Common.{◌≡◌, ◌++◌, codes, false, ap, ◌∙◌}
use Rattle.std.proofs.lemmas.Result.{IfOk-weaker}
use Rattle.serde_json.specs.View.{view}
use Rattle.serde_json.specs.Written.{compact_text, has_float}
use Rattle.xb_live.specs.Objects.{totals_object}
use Rattle.xb_live.proofs.entry_text.totals_line.Goals as goal

pub returns : goal.returns
returns c =
    let is : view c.in_ok-object.object ≡ totals_object c.args.keyed c.args.refused = c.in_ok-object.ensures in
    let none : has_float (view c.in_ok-object.object) ≡ false = ap has_float is in
    IfOk-weaker c.line_of.result _ _ (λ line text. text none ∙ ap (λ value. compact_text value ++ codes "\n") is) c.line_of.ensures.text
