use Rattle.std.proofs.Common.{◌≡◌, ◌++◌, drop, string_bytes}
use Rattle.std.specs.List.{flat_map}
use Rattle.xb_report.specs.Pages.{link_text}
use Rattle.xb_report.proofs.page.push_each_link.Given as goal

abbrev pub invariant-loop-line : goal.invariant-loop-line
invariant-loop-line l =
    string_bytes l.out ++ flat_map link_text (drop l.line-index l.lines)
    ≡ string_bytes l.fn.out ++ flat_map link_text l.lines
