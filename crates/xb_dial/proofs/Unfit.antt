-- Why words ask for nothing.
use Rattle.std.proofs.Common.{List, codes, inr}
use Rattle.clap.specs.Walk.{Row, first_of}
use Rattle.xb_command.specs.Answers.{Takes}
use Rattle.xb_command.specs.Works.{IsWrong}
use Rattle.xb_command.specs.declared.asking.Answer.{Answer}
use Rattle.xb_command.specs.declared.asking.Answer.TheVariants as answer
use Rattle.xb_command.specs.declared.table.Call.{Call}
use Rattle.xb_dial.specs.FaultWords.{IsNoFaults}
use Rattle.xb_dial.specs.Options.{IsNothing, IsUnfit}

pub no_faults : (rows : List Row) (a : Answer) → IsNoFaults (first_of (codes "fault") rows) a → IsNothing rows a
no_faults rows answer.NoMemory none = tt
no_faults rows (answer.Unfit misfit) none = inr none
no_faults rows answer.Help none = absurd none
no_faults rows answer.Version none = absurd none
no_faults rows (answer.Wrong kind reason) none = absurd none
no_faults rows (answer.Against breach) none = absurd none

pub nothing_is_wrong :
    (call : Call) (rows : List Row) (a : Answer) → Takes call rows → IsNothing rows a → IsWrong IsUnfit call a
nothing_is_wrong call rows answer.NoMemory takes nothing = tt
nothing_is_wrong call rows (answer.Unfit misfit) takes nothing =
    record { rows = rows; takes = takes; says = nothing }
nothing_is_wrong call rows answer.Help takes nothing = absurd nothing
nothing_is_wrong call rows answer.Version takes nothing = absurd nothing
nothing_is_wrong call rows (answer.Wrong kind reason) takes nothing = absurd nothing
nothing_is_wrong call rows (answer.Against breach) takes nothing = absurd nothing
