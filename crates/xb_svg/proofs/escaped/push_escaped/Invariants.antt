use Rattle.std.proofs.Common.{◌≡◌, ◌++◌, string_bytes}
use Rattle.std.specs.List.{flat_map}
use Rattle.xb_svg.specs.Escaped.{sign_text}
use Rattle.xb_svg.proofs.escaped.push_escaped.Given as goal

abbrev pub invariant-loop-sign : goal.invariant-loop-sign
invariant-loop-sign l = string_bytes l.out ≡ string_bytes l.fn.out ++ flat_map sign_text l.yielded
