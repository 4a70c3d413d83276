use Rattle.std.proofs.Common.{◌∙◌, [], ℕ, List, OnOk, ap, string_bytes, subst}
use Rattle.xb_svg.specs.Drawings.{PutsBy, drawing_text, says}
use Rattle.xb_shown.specs.Pictures.{Drawn, picture_rest}
use Rattle.xb_shown.proofs.Parts.{none-later}
use Rattle.xb_shown.proofs.picture.Picture.end.Goals as goal

pub returns : goal.returns
returns c =
    let inside : Drawn = record { words = says c.self.inside.elements.items; came = c.self.inside.came } in
    subst (λ (ws : List (List ℕ)). OnOk c.push_drawing.result (PutsBy (λ looks. drawing_text looks ws)
    (string_bytes c.args.out.now) (string_bytes c.push_drawing.new.out)))
    (ap says c.deref.ensures.value ∙ c.in_ok-put_others.ensures
    ∙ none-later inside c.saturating_sub-others.result c.self.invariant c.saturating_sub-others.ensures
    ∙ ap (λ (d : Drawn). picture_rest d []) c.self.view_is)
    c.push_drawing.ensures
