use Rattle.std.proofs.Common.{◌≡◌, ◌+◌, drop}
use Rattle.std.specs.Prelude.{count_by}
use Rattle.xb_tone.specs.Entries.{is_keyed}
use Rattle.xb_tone.proofs.text.count_keyed.Given as goal

abbrev pub invariant-loop-entry : goal.invariant-loop-entry
invariant-loop-entry l = l.count + count_by is_keyed (drop l.entry-index l.entries) ≡ count_by is_keyed l.entries
