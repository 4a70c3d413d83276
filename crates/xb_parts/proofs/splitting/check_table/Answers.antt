use Rattle.std.proofs.Common.{◌≡◌}
use Rattle.std.specs.Prelude.{Err}
use Rattle.xb_routes.specs.Text.{table_of_text}
use Rattle.xb_parts.proofs.SplitDecks.{has_table}
use Rattle.xb_parts.proofs.splitting.check_table.Goals as goal

pub returns-in-Err-clause-fault : goal.returns-in-Err-clause-fault
returns-in-Err-clause-fault c = λ deck parts left opened.
    c.fault_of_routes.ensures deck parts
    (λ enough. has_table deck c.args.table.now left (λ text. table_of_text text ≡ Err c.in-Err.fault) opened
    (c.in-Err.ensures.refused enough))
