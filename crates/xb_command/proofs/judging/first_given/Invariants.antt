use Rattle.std.proofs.Common.{◌≡◌, drop}
use Rattle.clap.specs.Matches.{found_of}
use Rattle.clap.specs.Walk.{rows_of}
use Rattle.xb_command.specs.Judging.{first_given}
use Rattle.xb_command.proofs.judging.first_given.Given as goal

abbrev pub invariant-loop-name : goal.invariant-loop-name
invariant-loop-name l =
    first_given (rows_of (found_of l.words)) (drop l.name-index l.names)
    ≡ first_given (rows_of (found_of l.words)) l.names
