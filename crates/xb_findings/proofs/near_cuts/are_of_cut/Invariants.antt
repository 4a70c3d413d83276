use Rattle.std.proofs.Common.{◌≡◌, drop}
use Rattle.std.specs.List.{list_all}
use Rattle.xb_findings.specs.NearCuts.{is_of_cut}
use Rattle.xb_findings.proofs.near_cuts.are_of_cut.Given as goal

abbrev pub invariant-loop-byte : goal.invariant-loop-byte
invariant-loop-byte l = list_all is_of_cut (drop l.byte-index l.line) ≡ list_all is_of_cut l.line
