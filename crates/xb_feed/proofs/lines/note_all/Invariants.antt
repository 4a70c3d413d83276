use Rattle.std.proofs.Common.{◌≡◌, ◌++◌, drop, string_bytes}
use Rattle.std.specs.List.{flat_map}
use Rattle.xb_feed.specs.Watching.{line_noted}
use Rattle.xb_feed.proofs.lines.note_all.Given as goal

abbrev pub invariant-loop-line : goal.invariant-loop-line
invariant-loop-line g l =
    string_bytes l.notes ++ flat_map (line_noted g.C.Follow.rules l.scale) (drop l.line-index l.lines)
    ≡ string_bytes l.initial.notes ++ flat_map (line_noted g.C.Follow.rules l.scale) l.lines
