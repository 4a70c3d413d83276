use Rattle.std.proofs.Common.{◌≡◌, ◌++◌, drop, map, take}
use Rattle.xb_contact.specs.Steps.{result_map}
use Rattle.xb_vcd.specs.VcdTexts.{declared_codes}
use Rattle.xb_vcd.proofs.declaration.declare.Given as goal

abbrev pub invariant-loop-i : goal.invariant-loop-i
invariant-loop-i l =
    result_map (λ later. take l.i l.codes ++ later)
    (declared_codes l.words l.name (map (λ wanted. wanted.now) (drop l.i l.names)) (drop l.i l.codes))
    ≡ declared_codes l.words l.name (map (λ wanted. wanted.now) l.names) l.initial.codes
