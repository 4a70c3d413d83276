use Rattle.std.proofs.Common.{append_assoc, string_bytes}
use Rattle.xb_svg.proofs.Pushed.{both, last, str}
use Rattle.xb_plot.specs.Dots.{title_text}
use Rattle.xb_plot.proofs.dots.push_title.Goals as goal

pub returns : goal.returns
returns c =
    let o = string_bytes c.args.out.now in
    let name = both o _ _ _ _ c.in_ok-push_str.ensures.bytes c.in_ok-push_name.ensures in
    let colon = both o _ _ _ _ name c.in_ok-push_str-2.ensures.bytes in
    let figures = both o _ _ _ _ colon c.in_ok-push_figures.ensures in
    let end = str c.push_str-3.result _ _ c.word_of.result.now c.push_str-3.ensures.bytes in
    last c.push_str-3.result o _ _ _ _ (title_text c.args.windows c.args.scale c.args.train.now) figures end
    (simp (c.word_of.ensures, c.judged.ensures, append_assoc))
