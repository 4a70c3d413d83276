use Rattle.std.proofs.Common.{IfSome, string_bytes, subst, sym}
use Rattle.std.proofs.lemmas.List.{take-map}
use Rattle.clap.specs.Faults.{fault_of}
use Rattle.xb_command.specs.Answers.{AnswersKinds}
use Rattle.xb_command.specs.Tables.{command_by}
use Rattle.xb_command.proofs.asking.refusal_at.Goals as goal

pub returns : goal.returns
returns c =
    subst
    (λ texts. IfSome c.refusal_of.result (AnswersKinds (fault_of (command_by c.args.program.now) texts)))
    (sym (take-map string_bytes c.args.count c.args.words.now)) c.refusal_of.ensures
