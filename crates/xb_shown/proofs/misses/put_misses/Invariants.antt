use Rattle.std.proofs.Common.{◌≡◌, ◌++◌, drop}
use Rattle.std.specs.List.{flat_map}
use Rattle.xb_svg.specs.Drawings.{says}
use Rattle.xb_shown.specs.Keyings.{missed_words}
use Rattle.xb_shown.proofs.misses.put_misses.Given as goal

abbrev pub invariant-loop-index : goal.invariant-loop-index
invariant-loop-index l =
    says l.out.items ++ flat_map (missed_words l.key.row.from l.key.figures) (drop l.index l.limits)
    ≡ says l.fn.out.items ++ flat_map (missed_words l.key.row.from l.key.figures) l.limits
