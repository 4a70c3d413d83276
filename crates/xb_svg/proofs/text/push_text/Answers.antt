use Rattle.std.proofs.Common.{append_assoc, string_bytes}
use Rattle.xb_svg.specs.Elements.{words_text}
use Rattle.xb_svg.proofs.Pushed.{both, last}
use Rattle.xb_svg.proofs.text.push_text.Goals as goal

pub returns : goal.returns
returns c =
    let o = string_bytes c.args.out.now in
    let words = both o _ _ _ _ c.in_ok-push_text_start.ensures c.in_ok-push_escaped.ensures in
    last c.push_text_end.result o _ _ _ _ (words_text c.args.x c.args.y c.args.look c.args.words.now) words
    c.push_text_end.ensures (simp append_assoc)
