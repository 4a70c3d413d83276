use Rattle.std.proofs.Common.{append_assoc, codes, string_bytes}
use Rattle.xb_svg.specs.Elements.{dashed_line_text, path_text}
use Rattle.xb_svg.proofs.Pushed.{last, str}
use Rattle.xb_svg.proofs.line.push_dashed_line.Goals as goal

pub returns : goal.returns
returns c =
    let end = str c.push_str.result _ _ (codes "\" stroke-dasharray=\"30 20\"/>\n") c.push_str.ensures.bytes in
    last c.push_str.result (string_bytes c.args.out.now) _ _ (path_text c.args.steps.now c.args.ink c.args.width) _
    (dashed_line_text c.args.steps.now c.args.ink c.args.width) c.in_ok-push_path.ensures end (simp append_assoc)
