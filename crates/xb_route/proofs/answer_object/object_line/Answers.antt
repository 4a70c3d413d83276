use Rattle.std.proofs.Common.{◌≡◌, ◌++◌, codes, false, ap, ◌∙◌, rules, string_bytes}
use Rattle.serde_json.specs.View.{view}
use Rattle.serde_json.specs.Written.{compact_text, has_float}
use Rattle.xb_route.specs.Objects.{object_of}
use Rattle.xb_route.proofs.KeyValues.{no-floats}
use Rattle.xb_route.proofs.answer_object.object_line.Goals as goal

pub returns : goal.returns
returns c =
    let is : view c.in_ok-object.object ≡ object_of c.args.digits.now c.args.answer.now = search rules in
    let none : has_float (view c.in_ok-object.object) ≡ false
    = ap has_float is ∙ no-floats c.args.digits.now c.args.answer.now in
    let text : string_bytes c.in_ok-line_of.field-0 ≡ compact_text (object_of c.args.digits.now c.args.answer.now) ++ codes "\n"
    = c.in_ok-line_of.ensures.text none ∙ ap (λ d. compact_text d ++ codes "\n") is in
    search rules
