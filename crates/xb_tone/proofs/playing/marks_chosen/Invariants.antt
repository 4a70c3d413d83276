use Rattle.std.proofs.Common.{◌≡◌, take}
use Rattle.xb_tone.specs.Sounding.{marks_chosen}
use Rattle.xb_tone.proofs.playing.marks_chosen.Given as goal

abbrev pub invariant-loop-entry : goal.invariant-loop-entry
invariant-loop-entry l = l.marks.items ≡ marks_chosen l.choice (take l.entry-index l.entries)
