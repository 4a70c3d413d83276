use Rattle.std.proofs.Common.{◌≡◌, ◌<◌, ◌+◌, ◌∙◌, ap, arith}
use Rattle.xb_svg.specs.Drawings.{says}
use Rattle.xb_shown.specs.Pictures.{Drawn, part_in}
use Rattle.xb_shown.proofs.Parts.{one-drawn}
use Rattle.xb_shown.proofs.picture.Picture.take.Goals as goal

pub returns-clause-drawn : goal.returns-clause-drawn
returns-clause-drawn c = λ later.
    let new : Drawn = record { words = says c.self-2.inside.elements.items; came = c.self-2.inside.came + 1 } in
    let before : c.self.inside.came ≡ c.args.self.now.came = ap (λ (d : Drawn). d.came) c.self.view_is in
    let room : c.args.self.now.came < 40 = omega (arith, before, c.if-self-ge-MOST_DRAWN.false) in
    one-drawn c.args.self.now new (part_in c.args.part.now) later room
    (ap (λ (d : Drawn). d.words) c.self-2.view_is ∙ c.in_ok-draw.ensures.words)
    (ap (λ (d : Drawn). d.came + 1) c.self-2.view_is ∙ ap (λ n. n + 1) c.in_ok-draw.ensures.count)
