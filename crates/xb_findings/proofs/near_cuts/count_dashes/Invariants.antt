use Rattle.std.proofs.Common.{◌≡◌, ◌+◌, drop}
use Rattle.std.specs.Prelude.{count_by}
use Rattle.xb_findings.specs.NearCuts.{is_dash}
use Rattle.xb_findings.proofs.near_cuts.count_dashes.Given as goal

abbrev pub invariant-loop-byte : goal.invariant-loop-byte
invariant-loop-byte l = l.count + count_by is_dash (drop l.byte-index l.line) ≡ count_by is_dash l.line
