use Rattle.std.proofs.KnownBytes.{Keeps-refl}
use Rattle.xb_command.proofs.AnswersTold.{TellsAnswer-attends}
use Rattle.xb_command.proofs.work.attend.Goals as goal

pub returns-in-Err : goal.returns-in-Err
returns-in-Err g c =
    TellsAnswer-attends g.Q.Work.rules c.args.call.now (g.F.Files.bytes c.args.files.now) _ _ _ (Keeps-refl _)
    c.in-Err.answer c.in-Err.ensures.wrong c.tell_answer.ensures
