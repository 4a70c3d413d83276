use Rattle.std.proofs.Common.{◌∙◌, List, ◌++◌, ap}
use Rattle.xb_model.specs.declared.dialled.Dialled.{Dialled}
use Rattle.xb_incoming.proofs.Taken.{finishes}
use Rattle.xb_incoming.proofs.register.Register.finish.Goals as goal

pub returns : goal.returns
returns c limit keys told has =
    ap (λ (os : List Dialled). told ++ os) c.at_end.ensures ∙ finishes limit _ keys told has
