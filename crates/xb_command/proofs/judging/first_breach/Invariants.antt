use Rattle.std.proofs.Common.{◌≡◌, drop}
use Rattle.clap.specs.Matches.{found_of}
use Rattle.clap.specs.Walk.{rows_of}
use Rattle.xb_command.specs.Judging.{first_breach}
use Rattle.xb_command.proofs.judging.first_breach.Given as goal

abbrev pub invariant-loop-word : goal.invariant-loop-word
invariant-loop-word l =
    first_breach (rows_of (found_of l.words)) (drop l.word-index l.table)
    ≡ first_breach (rows_of (found_of l.words)) l.table
