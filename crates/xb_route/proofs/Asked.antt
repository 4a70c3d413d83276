-- What words ask for, and why they ask for nothing.
use Rattle.std.proofs.Common.{List, Some, refl}
use Rattle.clap.specs.Walk.{Row}
use Rattle.xb_command.specs.Answers.{Takes}
use Rattle.xb_command.specs.Works.{AsksBy, IsWrong}
use Rattle.xb_command.specs.declared.asking.Answer.{Answer}
use Rattle.xb_command.specs.declared.asking.Answer.TheVariants as answer
use Rattle.xb_command.specs.declared.table.Call.{Call}
use Rattle.xb_route.specs.declared.words.Request.{Request}
use Rattle.xb_route.specs.Options.{IsNothing, IsUnfit, Say}

pub it_asks : (call : Call) (rows : List Row) (request : Request) → Takes call rows → Say rows request
    → AsksBy Say (λ (r : Request). Some r) call request
it_asks call rows request takes says =
    record { rows = rows; takes = takes; options = request; says = says; asks = refl }

pub nothing_is_wrong :
    (call : Call) (rows : List Row) (a : Answer) → Takes call rows → IsNothing rows a → IsWrong IsUnfit call a
nothing_is_wrong call rows answer.NoMemory takes nothing = tt
nothing_is_wrong call rows (answer.Unfit misfit) takes nothing =
    record { rows = rows; takes = takes; says = nothing }
nothing_is_wrong call rows answer.Help takes nothing = absurd nothing
nothing_is_wrong call rows answer.Version takes nothing = absurd nothing
nothing_is_wrong call rows (answer.Wrong kind reason) takes nothing = absurd nothing
nothing_is_wrong call rows (answer.Against breach) takes nothing = absurd nothing
