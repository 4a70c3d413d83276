use Rattle.std.proofs.Common.{rules, arith}
use Rattle.std.proofs.lemmas.List.Folds.{list_any_at}
use Rattle.xb_vcd.proofs.vcd.Vcd.change.Goals as goal

pub returns-in_err-say-clause-memory : goal.returns-in_err-say-clause-memory
returns-in_err-say-clause-memory c = first_of (search (rules, list_any_at), grind (arith, list_any_at))
