use Rattle.std.proofs.Common.{◌≡◌, drop}
use Rattle.std.specs.List.{list_all}
use Rattle.xb_keys.specs.Table.{is_bare}
use Rattle.xb_keys.proofs.sections.is_bare.Given as goal

abbrev pub invariant-loop-byte : goal.invariant-loop-byte
invariant-loop-byte l = list_all is_bare (drop l.byte-index l.key) ≡ list_all is_bare l.key
