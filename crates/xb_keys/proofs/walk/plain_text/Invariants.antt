use Rattle.std.proofs.Common.{◌≡◌, ◌++◌, map, drop}
use Rattle.std.specs.Prelude.{string_bytes}
use Rattle.xb_keys.specs.Spots.{plain}
use Rattle.xb_keys.proofs.walk.plain_text.Given as goal

abbrev pub invariant-loop-byte : goal.invariant-loop-byte
invariant-loop-byte l = string_bytes l.text ++ map plain (drop l.byte-index l.table) ≡ map plain l.table
