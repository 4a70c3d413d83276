use Rattle.std.proofs.Common.{◌↔◌, drop}
use Rattle.std.specs.List.{AllByRecursion}
use Rattle.xb_feed.specs.Watching.{CanReach}
use Rattle.xb_feed.proofs.lines.can_all_reach.Given as goal

abbrev pub invariant-loop-line : goal.invariant-loop-line
invariant-loop-line g l =
    AllByRecursion (CanReach g.C.Follow.rules l.tick) (drop l.line-index l.lines)
    ↔ AllByRecursion (CanReach g.C.Follow.rules l.tick) l.lines
