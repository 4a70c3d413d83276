use Rattle.std.proofs.Common.{◌≡◌, ◌++◌, drop, take, string_bytes}
use Rattle.std.specs.List.{AllByRecursion, flat_map}
use Rattle.xb_feed.specs.Watching.{CanReach, all_held, told_until}
use Rattle.xb_feed.proofs.lines.hold_all.Given as goal

abbrev pub invariant-loop-line : goal.invariant-loop-line
invariant-loop-line g l =
    (string_bytes l.text ++ flat_map g.C.Follow.rules.text (told_until g.C.Follow.rules l.tick (drop l.line-index l.lines))
    ≡ string_bytes l.initial.text ++ flat_map g.C.Follow.rules.text (told_until g.C.Follow.rules l.tick l.initial.lines))
    × (take l.line-index l.lines ++ all_held g.C.Follow.rules l.tick (drop l.line-index l.lines)
    ≡ all_held g.C.Follow.rules l.tick l.initial.lines)
    × AllByRecursion (CanReach g.C.Follow.rules l.tick) (drop l.line-index l.lines)
