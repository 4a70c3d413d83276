use Rattle.std.proofs.Common.{◌≡◌, ◌++◌, drop}
use Rattle.xb_keys.specs.Table.{without_blanks}
use Rattle.xb_keys.proofs.sections.without_blanks.Given as goal

abbrev pub invariant-loop-byte : goal.invariant-loop-byte
invariant-loop-byte l = l.kept.items ++ without_blanks (drop l.byte-index l.line) ≡ without_blanks l.line
