use Rattle.std.proofs.Common.{subst, sym}
use Rattle.xb_hear.specs.declared.request.Request.{Request}
use Rattle.xb_hear.specs.DeckReport.{Gives}
use Rattle.xb_hear.proofs.deck_report.text_of.Goals as goal

pub returns-in-Picture : goal.returns-in-Picture
returns-in-Picture c =
    let P : Request → Type 0 = λ asked. Gives asked c.args.before c.args.plan c.args.limits c.args.rows.now c.picture_of_line.result in
    subst P (sym c.in-Picture.is) (c.picture_of_line.ensures c.args.before)
