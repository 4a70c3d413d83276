use Rattle.std.proofs.Common.{◌≡◌, drop}
use Rattle.std.specs.List.{list_any}
use Rattle.xb_tone.specs.Placing.{is_asked}
use Rattle.xb_tone.proofs.placing.has_asked.Given as goal

abbrev pub invariant-loop-entry : goal.invariant-loop-entry
invariant-loop-entry l =
    list_any (λ entry. is_asked l.choice entry) l.entries
    ≡ list_any (λ entry. is_asked l.choice entry) (drop l.entry-index l.entries)
