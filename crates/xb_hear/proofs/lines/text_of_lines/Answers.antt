use Rattle.std.proofs.Common.{◌∙◌, ap, ap₂, string_bytes}
use Rattle.std.proofs.lemmas.Result.{IfOk-weaker}
use Rattle.xb_hear.specs.ToldLines.{list_of, whole_of}
use Rattle.xb_hear.proofs.lines.text_of_lines.Goals as goal

pub returns : goal.returns
returns c =
    let told = c.in_ok-told.told in
    let tells = c.in_ok-told.ensures in
    let manner = c.args.manner in
    let list = c.deref-3.ensures ∙ c.in_ok-list.ensures
    ∙ ap₂ (list_of manner.form) (c.deref.ensures.value ∙ tells.refused) (c.deref-2.ensures.value ∙ tells.others) in
    IfOk-weaker c.whole_of.result _ _
    (λ text is. record {
      told = string_bytes told.text;
      is_told = tells.text;
      is = is ∙ ap (λ l. whole_of manner.form manner.limits l (string_bytes told.text)) list;
    })
    c.whole_of.ensures
