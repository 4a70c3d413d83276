use Rattle.std.proofs.Common.{◌≡◌, drop}
use Rattle.std.specs.List.{list_any}
use Rattle.xb_tone.specs.Sounding.{is_chosen}
use Rattle.xb_tone.proofs.playing.has_chosen.Given as goal

abbrev pub invariant-loop-entry : goal.invariant-loop-entry
invariant-loop-entry l =
    list_any (λ entry. is_chosen l.choice entry) l.entries
    ≡ list_any (λ entry. is_chosen l.choice entry) (drop l.entry-index l.entries)
