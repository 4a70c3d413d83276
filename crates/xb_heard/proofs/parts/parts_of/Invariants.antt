use Rattle.std.proofs.Common.{◌≡◌, ◌≤◌, ◌++◌, map, length}
use Rattle.xb_heard.specs.Parts.{part_in, parts_of}
use Rattle.xb_heard.proofs.parts.parts_of.Given as goal

abbrev pub invariant-loop-i : goal.invariant-loop-i
invariant-loop-i l = record {
  within : length l.rest ≤ length l.fn.runs;
  parts : map part_in l.parts.items ++ parts_of l.limits l.cut l.rest ≡ parts_of l.limits l.cut l.fn.runs;
}

abbrev pub decreases-loop-i : goal.decreases-loop-i
decreases-loop-i l = length l.rest
