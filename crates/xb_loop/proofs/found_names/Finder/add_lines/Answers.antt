use Rattle.std.proofs.Common.{◌≡◌, true, ap, sym, rules, ◌∙◌}
use Rattle.std.specs.Prelude.{is_some, option_copied, ◌||◌}
use Rattle.xb_text.specs.Pieces.{pieces_left}
use Rattle.xb_loop.specs.Names.{all_added, named_in}
use Rattle.xb_loop.specs.Wires.{names_in_lines}
use Rattle.xb_loop.proofs.FoundNames.{lines_added}
use Rattle.xb_loop.proofs.found_names.Finder.add_lines.Goals as goal

pub loop-left-preserved-in_ok-add_line : goal.loop-left-preserved-in_ok-add_line
loop-left-preserved-in_ok-add_line c =
    let text = c.in-Some.text.now in
    let line = c.first_piece.result.0.now in
    let later = option_copied c.first_piece.result.1 in
    let found = named_in c.loop-left.self.found in
    let ended : (is_some later || c.args.is_end) ≡ true = search rules in
    ap (λ them. all_added them (names_in_lines c.args.format c.args.is_end (pieces_left 10 later))) c.in_ok-add_line.ensures
    ∙ lines_added found c.args.format c.args.is_end text line later c.first_piece.ensures ended
    ∙ sym (ap (λ left. all_added found (names_in_lines c.args.format c.args.is_end (pieces_left 10 (option_copied left)))) c.in-Some.is)
    ∙ c.loop-left.invariant
