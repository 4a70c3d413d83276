-- Why words ask for nothing.
use Rattle.std.proofs.Common.{List}
use Rattle.clap.specs.Walk.{Row}
use Rattle.xb_command.specs.Answers.{Takes}
use Rattle.xb_command.specs.Works.{IsWrong}
use Rattle.xb_command.specs.declared.asking.Answer.{Answer}
use Rattle.xb_command.specs.declared.asking.Answer.TheVariants as answer
use Rattle.xb_command.specs.declared.table.Call.{Call}
use Rattle.xb_feed.proofs.UnfitWords.{unfit_is_wrong}
use Rattle.xb_feed.specs.Options.{IsUnfit}
use Rattle.xb_bench.specs.Options.{AskNothing, SayNothing}

-- where that says something else as well
pub unfit_weaker : (A B : Type 0) (a : Answer) → (A → B) → IsUnfit A a → IsUnfit B a
unfit_weaker A B answer.NoMemory also is = tt
unfit_weaker A B (answer.Unfit misfit) also is = also is
unfit_weaker A B answer.Help also is = absurd is
unfit_weaker A B answer.Version also is = absurd is
unfit_weaker A B (answer.Wrong kind reason) also is = absurd is
unfit_weaker A B (answer.Against breach) also is = absurd is

-- the words of a call say nothing that there is
pub is_wrong :
    (call : Call) (rows : List Row) (a : Answer) → Takes call rows → IsUnfit (SayNothing rows) a
    → IsWrong AskNothing call a
is_wrong call rows a takes is =
    unfit_is_wrong (SayNothing rows) AskNothing call a (λ misfit says. record { rows = rows; takes = takes; says = says }) is
