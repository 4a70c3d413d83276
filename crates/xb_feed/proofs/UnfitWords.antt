-- Words that are wrong by one of their values.
use Rattle.xb_command.specs.Works.{IsWrong}
use Rattle.xb_command.specs.declared.asking.Answer.{Answer}
use Rattle.xb_command.specs.declared.asking.Answer.TheVariants as answer
use Rattle.xb_command.specs.declared.asking.Misfit.{Misfit}
use Rattle.xb_command.specs.declared.table.Call.{Call}
use Rattle.xb_feed.specs.Options.{IsUnfit}

-- where what is so of them is what a program says of its words
pub unfit_is_wrong :
    (Nothing : Type 0) (Misfits : Call → Misfit → Type 0) (call : Call) (a : Answer)
    → ((misfit : Misfit) → Nothing → Misfits call misfit) → IsUnfit Nothing a → IsWrong Misfits call a
unfit_is_wrong Nothing Misfits call answer.NoMemory says is = tt
unfit_is_wrong Nothing Misfits call (answer.Unfit misfit) says is = says misfit is
unfit_is_wrong Nothing Misfits call answer.Help says is = absurd is
unfit_is_wrong Nothing Misfits call answer.Version says is = absurd is
unfit_is_wrong Nothing Misfits call (answer.Wrong kind reason) says is = absurd is
unfit_is_wrong Nothing Misfits call (answer.Against breach) says is = absurd is
