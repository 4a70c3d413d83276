use Rattle.std.proofs.Common.{append_assoc, string_bytes, OnOk, ◌++◌}
use Rattle.std.proofs.lemmas.Result.{on_ok_weaker}
use Rattle.xb_svg.specs.Drawings.{drawing_text}
use Rattle.xb_svg.proofs.Pushed.{both, last}
use Rattle.xb_shown.specs.Keyings.{part_words}
use Rattle.xb_shown.specs.Pictures.{part_of}
use Rattle.xb_shown.specs.Sections.{figures_text, opening_text, section_text}
use Rattle.xb_shown.proofs.page.push_part.Goals as goal

pub returns : goal.returns
returns c =
    let o = string_bytes c.args.out.now in
    let title = c.args.part.now.title in
    let before = c.args.part.now.before in
    let keys = c.args.part.now.keys.now in
    let drawn = c.in_ok-push_keying.ensures in
    let picture = both o _ _ _ _ c.in_ok-push_opening.ensures drawn.put in
    on_ok_weaker c.push_figures.result (λ e. record { looks = drawn.looks; put = e })
    (last c.push_figures.result o _ _ _ _ (section_text drawn.looks (part_of title before keys)) picture c.push_figures.ensures
    (append_assoc (opening_text title keys) (drawing_text drawn.looks (part_words title before keys))
    (figures_text title before keys)))
