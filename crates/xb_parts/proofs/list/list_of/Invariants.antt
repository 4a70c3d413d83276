use Rattle.std.proofs.Common.{◌≡◌, take, string_bytes}
use Rattle.xb_parts.specs.Lists.{list_of}
use Rattle.xb_parts.proofs.list.list_of.Given as goal

abbrev pub invariant-loop-part : goal.invariant-loop-part
invariant-loop-part l = string_bytes l.text ≡ list_of (take l.part-index l.parts)
