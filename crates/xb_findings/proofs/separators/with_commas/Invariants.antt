use Rattle.std.proofs.Common.{◌≡◌, ◌++◌, map, drop}
use Rattle.xb_findings.specs.Separators.{comma_for, with_commas}
use Rattle.xb_findings.proofs.separators.with_commas.Given as goal

abbrev pub invariant-loop-byte : goal.invariant-loop-byte
invariant-loop-byte l =
    l.text.items ++ map (comma_for l.separator) (drop l.byte-index l.line) ≡ with_commas l.separator l.line
