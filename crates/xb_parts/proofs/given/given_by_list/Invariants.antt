use Rattle.std.proofs.Common.{◌≡◌, ◌++◌, drop, map}
use Rattle.xb_parts.specs.Joining.{given_of}
use Rattle.xb_parts.specs.Given.{given_by_list}
use Rattle.xb_parts.proofs.given.given_by_list.Given as goal

abbrev pub invariant-loop-page : goal.invariant-loop-page
invariant-loop-page l =
    given_by_list l.ranges (map (λ page. page.items) l.pages)
    ≡ map given_of l.parts.items ++ given_by_list l.left (map (λ page. page.items) (drop l.page-index l.pages))
