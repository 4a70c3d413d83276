use Rattle.std.proofs.Common.{◌≡◌, ◌++◌, drop, string_bytes}
use Rattle.std.specs.List.{flat_map}
use Rattle.xb_svg.specs.Drawings.{element_text}
use Rattle.xb_svg.proofs.drawing.push_elements.Given as goal

abbrev pub invariant-loop-element : goal.invariant-loop-element
invariant-loop-element l =
    string_bytes l.out ++ flat_map element_text (drop l.element-index l.elements)
    ≡ string_bytes l.fn.out ++ flat_map element_text l.elements
