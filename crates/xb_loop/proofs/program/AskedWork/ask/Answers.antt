use Rattle.std.proofs.lemmas.Result.{IfErr-weaker}
use Rattle.xb_loop.proofs.Attended.{is_wrong}
use Rattle.xb_loop.proofs.program.AskedWork.ask.Goals as goal

pub returns-clause-wrong : goal.returns-clause-wrong
returns-clause-wrong c =
    IfErr-weaker c.asked_of.result _ _
    (λ answer none. is_wrong c.args._call.now c.args.words.now answer c.requires none)
    c.asked_of.ensures.nothing
