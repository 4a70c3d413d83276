use Rattle.std.proofs.Common.{◌≡◌, drop}
use Rattle.clap.specs.Simple.{app_of}
use Rattle.xb_command.specs.Tables.{command_by, with_rules}
use Rattle.xb_command.proofs.table.command_by.Given as goal

abbrev pub invariant-loop-word : goal.invariant-loop-word
invariant-loop-word l =
    with_rules (app_of l.command) (drop l.word-index l.program.words.now) ≡ command_by l.program
