use Rattle.std.proofs.Common.{append_assoc, codes, string_bytes}
use Rattle.xb_svg.specs.Elements.{line_text, path_text}
use Rattle.xb_svg.proofs.Pushed.{last, str}
use Rattle.xb_svg.proofs.line.push_line.Goals as goal

pub returns : goal.returns
returns c =
    let end = str c.push_str.result _ _ (codes "\"/>\n") c.push_str.ensures.bytes in
    last c.push_str.result (string_bytes c.args.out.now) _ _ (path_text c.args.steps.now c.args.ink c.args.width) _
    (line_text c.args.steps.now c.args.ink c.args.width) c.in_ok-push_path.ensures end (simp append_assoc)
