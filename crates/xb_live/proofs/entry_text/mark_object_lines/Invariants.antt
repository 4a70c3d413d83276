use Rattle.std.proofs.Common.{◌≡◌, ◌++◌, drop, string_bytes}
use Rattle.std.specs.List.{flat_map}
use Rattle.xb_clock.specs.Clocks.{text_in}
use Rattle.xb_live.specs.Objects.{line_of, timed_mark}
use Rattle.xb_live.proofs.entry_text.mark_object_lines.Given as goal

abbrev pub invariant-loop-mark : goal.invariant-loop-mark
invariant-loop-mark l =
    string_bytes l.lines ++ flat_map (λ mark. line_of (timed_mark (text_in l.time) l.line l.number l.at mark)) (drop l.mark-index l.entry)
    ≡ flat_map (λ mark. line_of (timed_mark (text_in l.time) l.line l.number l.at mark)) l.entry
