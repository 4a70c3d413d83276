use Rattle.std.proofs.Common.{◌∷◌, ◌∙◌, ap, sym}
use Rattle.xb_text.specs.Pieces.{pieces}
use Rattle.xb_feed.proofs.CutNames.{cut_nowhere, cut_there}
use Rattle.xb_feed.proofs.words.cut_name.Goals as goal

pub returns-in-Some : goal.returns-in-Some
returns-in-Some c =
    cut_there c.args.text.now c.in-Some.name c.in-Some.words c.in-Some.ensures.cases
    ∙ ap (λ words. c.in-Some.name.now ∷ pieces 44 words) (sym c.as_bytes.ensures.value)

pub returns-in-None : goal.returns-in-None
returns-in-None c = cut_nowhere c.args.text.now c.in-None.ensures.cases
