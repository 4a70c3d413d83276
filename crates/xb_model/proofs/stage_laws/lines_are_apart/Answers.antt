use Rattle.xb_model.proofs.Images.{image-line}
use Rattle.xb_model.proofs.stage_laws.lines_are_apart.Goals as goal

pub returns : goal.returns
returns g c = λ s l xs. image-line _ _ _ (g.met.S.LineStage.on_line s) l xs
