-- How what is nearly the line that cuts is told, text line by text line.
use Rattle.std.proofs.Common.{◌≡◌, ℕ, ◌+◌, List, ◌∷◌}
use Rattle.xb_findings.specs.NearCuts.{near_cut, near_cuts}
use Rattle.xb_findings.specs.Records.{found_at}
use Rattle.xb_findings.specs.Tallies.{Tallied, with_all}
use Rattle.xb_findings.proofs.Tellings.{with_all-append}

-- a text line, and the later ones
pub near_step : (before after : Tallied) (n : ℕ) (line : List ℕ) (later all : List (List ℕ)) → all ≡ line ∷ later
    → after ≡ with_all before (found_at n line (near_cut line)) → with_all before (near_cuts n all) ≡ with_all after (near_cuts (n + 1) later)
near_step before after n line later all is told =
    rw (is, told) (with_all-append before (found_at n line (near_cut line)) (near_cuts (n + 1) later))
