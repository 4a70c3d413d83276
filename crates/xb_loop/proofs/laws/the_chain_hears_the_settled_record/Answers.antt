use Rattle.xb_loop.proofs.HeardRows.{hears_the_settled_record, hears_the_clean_record, hears_each_clean_run}
use Rattle.xb_loop.proofs.laws.the_chain_hears_the_settled_record.Goals as goal

pub returns-clause-settled : goal.returns-clause-settled
returns-clause-settled c = hears_the_settled_record

pub returns-clause-clean : goal.returns-clause-clean
returns-clause-clean c = hears_the_clean_record

pub returns-clause-each : goal.returns-clause-each
returns-clause-each c = hears_each_clean_run
