use Rattle.std.proofs.Common.{◌≡◌}
use Rattle.xb_tone.specs.Placing.{entries_chosen}
use Rattle.xb_tone.proofs.placing.entries_chosen.Given as goal

abbrev pub invariant-loop-entry : goal.invariant-loop-entry
invariant-loop-entry l = l.chosen.items ≡ entries_chosen l.choice l.yielded
