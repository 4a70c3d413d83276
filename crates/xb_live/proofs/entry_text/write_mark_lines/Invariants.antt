use Rattle.std.proofs.Common.{◌≡◌, ◌++◌, drop, string_bytes}
use Rattle.std.specs.List.{flat_map}
use Rattle.xb_tape.specs.MarkLines.{mark_line}
use Rattle.xb_live.proofs.entry_text.write_mark_lines.Given as goal

abbrev pub invariant-loop-mark : goal.invariant-loop-mark
invariant-loop-mark l =
    string_bytes l.out ++ flat_map (λ mark. mark_line l.line l.number mark) (drop l.mark-index l.entry)
    ≡ string_bytes l.initial.out ++ flat_map (λ mark. mark_line l.line l.number mark) l.entry
