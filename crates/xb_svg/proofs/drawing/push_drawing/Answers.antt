use Rattle.std.proofs.Common.{◌++◌, ℕ, List, ap, map, string_bytes}
use Rattle.std.proofs.lemmas.Result.{on_ok_weaker}
use Rattle.xb_svg.specs.Drawings.{Looks, drawing_text, says, slot_of}
use Rattle.xb_svg.specs.Elements.{end_text, frame_text}
use Rattle.xb_svg.proofs.Drawn.{elements-are}
use Rattle.xb_svg.proofs.Pushed.{both, last}
use Rattle.xb_svg.proofs.drawing.push_drawing.Goals as goal

pub returns : goal.returns
returns c =
    let o = string_bytes c.args.out.now in
    let elements = c.args.elements.now in
    let looks : Looks = record { width = c.args.width; height = c.args.height; slots = map slot_of elements } in
    let inside = both o _ _ _ _ c.in_ok-push_frame.ensures c.in_ok-push_elements.ensures in
    on_ok_weaker c.push_end.result (λ e. record { looks = looks; put = e })
    (last c.push_end.result o _ _ _ _ (drawing_text looks (says elements)) inside c.push_end.ensures
    (ap (λ (t : List ℕ). (frame_text c.args.width c.args.height ++ t) ++ end_text) (elements-are elements)))
