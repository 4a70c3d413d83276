use Rattle.std.proofs.Common.{◌≡◌, map, take}
use Rattle.xb_feed.specs.Watching.{begun_watched}
use Rattle.xb_feed.proofs.lines.Lines.new.Given as goal

abbrev pub invariant-loop-asked : goal.invariant-loop-asked
invariant-loop-asked g l = l.lines.items ≡ map begun_watched (take l.asked-index l.request.lines.items)
