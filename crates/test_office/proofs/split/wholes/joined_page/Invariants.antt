use Rattle.std.proofs.Common.{◌≡◌}
use Rattle.test_office.proofs.split.wholes.joined_page.Given as goal

abbrev pub invariant-loop-end : goal.invariant-loop-end
invariant-loop-end g l = record { parts : l.joiner.parts ≡ l.end-index }
