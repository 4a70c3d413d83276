use Rattle.std.proofs.Common.{append_assoc, string_bytes}
use Rattle.xb_svg.proofs.Pushed.{both, last}
use Rattle.xb_svg.specs.Elements.{path_text}
use Rattle.xb_svg.proofs.line.push_path.Goals as goal

pub returns : goal.returns
returns c =
    let o = string_bytes c.args.out.now in
    let steps = both o _ _ _ _ c.in_ok-push_str.ensures.bytes c.in_ok-push_steps.ensures in
    last c.write.result o _ _ _ _ (path_text c.args.steps.now c.args.ink c.args.width) steps c.write.ensures.bytes
    (simp (c.ink_text-stroke.ensures, append_assoc))
