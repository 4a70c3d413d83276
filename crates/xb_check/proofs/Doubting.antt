-- How what is suspicious is told, one text line after the other.
use Rattle.std.proofs.Common.{◌≡◌, List, ◌∷◌, sym}
use Rattle.std.specs.List.{flat_map}
use Rattle.xb_findings.specs.Findings.{Found}
use Rattle.xb_findings.specs.Tallies.{Tallied, with_all}
use Rattle.xb_findings.proofs.Tellings.{with_all-append}

-- one more was told of
pub told_more : {X : Type 0} (of : X → List Found) (before after : Tallied) (x : X) (xs : List X) → after ≡ with_all before (of x)
    → with_all after (flat_map of xs) ≡ with_all before (flat_map of (x ∷ xs))
told_more of before after x xs e = rw e (sym (with_all-append before (of x) (flat_map of xs)))
