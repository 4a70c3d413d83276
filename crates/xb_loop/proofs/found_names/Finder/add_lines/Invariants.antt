use Rattle.std.proofs.Common.{◌≡◌, length}
use Rattle.std.specs.Prelude.{option_copied}
use Rattle.xb_text.specs.Pieces.{pieces_left}
use Rattle.xb_loop.specs.Names.{all_added, named_in}
use Rattle.xb_loop.specs.Wires.{names_in_lines, text_names}
use Rattle.xb_loop.proofs.found_names.Finder.add_lines.Given as goal

abbrev pub invariant-loop-left : goal.invariant-loop-left
invariant-loop-left l =
    all_added (named_in l.self.found) (names_in_lines l.format l.is_end (pieces_left 10 (option_copied l.left)))
    ≡ all_added (named_in l.initial.self.found) (text_names l.format l.is_end l.fn.text)

abbrev pub decreases-loop-left : goal.decreases-loop-left
decreases-loop-left l = length (pieces_left 10 (option_copied l.left))
