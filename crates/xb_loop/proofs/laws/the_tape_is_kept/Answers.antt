use Rattle.xb_loop.proofs.KeptTapes.{keeps_the_tape, leaves_long_runs_their_tape}
use Rattle.xb_loop.proofs.laws.the_tape_is_kept.Goals as goal

pub returns-clause-clean : goal.returns-clause-clean
returns-clause-clean c = keeps_the_tape

pub returns-clause-long_runs : goal.returns-clause-long_runs
returns-clause-long_runs c = leaves_long_runs_their_tape
