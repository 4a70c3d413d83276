use Rattle.std.proofs.Common.{◌≡◌, ◌≤◌, ◌++◌, length, map}
use Rattle.xb_model.specs.declared.line.TheConstants.{LINES}
use Rattle.xb_parts.specs.Joining.{given_of}
use Rattle.xb_parts.specs.Given.{given_from}
use Rattle.xb_parts.proofs.given.given_from_first.Given as goal

abbrev pub invariant-loop-page : goal.invariant-loop-page
invariant-loop-page l = record {
  within : l.first ≤ LINES;
  given :
      given_from 0 (map (λ page. page.items) l.fn.pages)
      ≡ map given_of l.parts.items ++ given_from l.first (map (λ page. page.items) l.left);
}

abbrev pub decreases-loop-page : goal.decreases-loop-page
decreases-loop-page l = length l.left
