use Rattle.std.proofs.Common.{◌≡◌, ◌∙◌, ◌++◌, ℕ, List, ap, ap₂}
use Rattle.std.proofs.lemmas.Grind.{flat_map-append}
use Rattle.xb_svg.specs.Drawings.{said_by, says}
use Rattle.xb_shown.specs.Keyings.{part_words}
use Rattle.xb_shown.specs.Pictures.{Drawn}
use Rattle.xb_shown.proofs.picture.Picture.draw.Goals as goal

pub returns-clause-words : goal.returns-clause-words
returns-clause-words c =
    let part : List (List ℕ) = part_words c.args.part.now.title c.args.part.now.before c.args.part.now.keys.now in
    ap says c.in_ok-append.ensures.items
    ∙ flat_map-append said_by c.self.inside.elements.items c.put_part.new.out.items
    ∙ ap₂ (λ (old drawn : List (List ℕ)). old ++ drawn) (ap (λ (d : Drawn). d.words) c.self.view_is)
    (c.in_ok-rows.ensures ∙ ap (λ els. says els ++ part) c.new-drawn.ensures.items)
