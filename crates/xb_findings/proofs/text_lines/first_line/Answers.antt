use Rattle.std.proofs.Common.{◌+◌, ◌∙◌, List, ℕ, ◌∷◌, take, get_or, sym, ap}
use Rattle.std.proofs.lemmas.List.{take_rest}
use Rattle.xb_findings.specs.TextLines.{after_end, text_lines}
use Rattle.xb_findings.proofs.TextLines.{first_cut, no_cut}
use Rattle.xb_findings.proofs.text_lines.first_line.Goals as goal

pub returns-in-Some : goal.returns-in-Some
returns-in-Some c =
    let text = c.args.text.now in
    let n = c.in-Some.n in
    first_cut text n c.in-Some.ensures
    ∙ ap (λ (rest : List ℕ). take n text ∷ text_lines (after_end (get_or text n 0) rest)) (sym (take_rest text (n + 1)))
    ∙ ap (λ (rest : List ℕ). take n text ∷ text_lines rest) (sym c.after_end.ensures)

pub returns-in-None : goal.returns-in-None
returns-in-None c = no_cut c.args.text.now c.in-None.ensures
