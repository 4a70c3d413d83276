use Rattle.xb_model.proofs.Images.{image-of_line}
use Rattle.xb_model.proofs.stage_laws.one_state_each.Goals as goal

pub returns : goal.returns
returns g c = λ s l xs. image-of_line _ _ _ (g.met.S.LineStage.on_line s) l xs
