use Rattle.std.proofs.Common.{◌≡◌, drop, map}
use Rattle.xb_parts.specs.Joiners.{joins}
use Rattle.xb_parts.specs.Joining.{given_of, join_of}
use Rattle.xb_parts.proofs.pages.join.Given as goal

abbrev pub invariant-loop-part : goal.invariant-loop-part
invariant-loop-part l = record {
  parts : l.joiner.parts ≡ l.part-index;
  rest : join_of (map given_of l.parts) ≡ joins l.joiner l.joined.items (map given_of (drop l.part-index l.parts));
}
