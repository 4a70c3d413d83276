use Rattle.std.proofs.KnownBytes.{Keeps-refl}
use Rattle.xb_command.proofs.AnswersTold.{PerformsBy-attends, TellsAnswer-attends}
use Rattle.xb_office.specs.Program.{by_bank}
use Rattle.xb_office.proofs.program.attend_call.Goals as goal

pub returns-in-Ok : goal.returns-in-Ok
returns-in-Ok g c =
    PerformsBy-attends by_bank c.args.call.now (g.F.Files.bytes c.args.files.now) _ _ _ c.in-Ok.asked
    c.in-Ok.ensures.asks c.perform.ensures

pub returns-in-Err : goal.returns-in-Err
returns-in-Err g c =
    TellsAnswer-attends by_bank c.args.call.now (g.F.Files.bytes c.args.files.now) _ _ _ (Keeps-refl _)
    c.in-Err.answer c.in-Err.ensures.wrong c.tell_answer.ensures
