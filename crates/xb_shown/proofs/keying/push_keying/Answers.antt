use Rattle.std.proofs.Common.{◌∙◌, ◌++◌, ℕ, List, OnOk, ap, string_bytes, subst}
use Rattle.xb_svg.specs.Drawings.{PutsBy, drawing_text, says}
use Rattle.xb_shown.specs.Keyings.{part_words}
use Rattle.xb_shown.proofs.keying.push_keying.Goals as goal

pub returns : goal.returns
returns c =
    subst (λ (ws : List (List ℕ)). OnOk c.push_drawing.result (PutsBy (λ looks. drawing_text looks ws)
    (string_bytes c.args.out.now) (string_bytes c.push_drawing.new.out)))
    (ap says c.deref.ensures.value ∙ c.in_ok-rows.ensures
    ∙ ap (λ els. says els ++ part_words c.args.part.now.title c.args.part.now.before c.args.part.now.keys.now) c.new-drawn.ensures.items)
    c.push_drawing.ensures
