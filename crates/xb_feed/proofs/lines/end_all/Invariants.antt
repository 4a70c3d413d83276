use Rattle.std.proofs.Common.{◌≡◌, ◌++◌, drop, string_bytes}
use Rattle.std.specs.List.{flat_map}
use Rattle.xb_feed.specs.Watching.{line_left}
use Rattle.xb_feed.proofs.lines.end_all.Given as goal

abbrev pub invariant-loop-line : goal.invariant-loop-line
invariant-loop-line g l =
    string_bytes l.text
    ++ flat_map g.C.Follow.rules.text (flat_map (line_left g.C.Follow.rules) (drop l.line-index l.lines))
    ≡ string_bytes l.initial.text ++ flat_map g.C.Follow.rules.text (flat_map (line_left g.C.Follow.rules) l.initial.lines)
