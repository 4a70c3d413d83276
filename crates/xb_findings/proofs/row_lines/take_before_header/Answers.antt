use Rattle.std.proofs.Common.{sym, ap, ◌∙◌, None, false}
use Rattle.xb_findings.specs.Separators.{is_other, separator_of_header, what_of_line}
use Rattle.xb_findings.specs.Steps.{lines_of}
use Rattle.xb_findings.specs.Findings.{with_meant}
use Rattle.xb_findings.proofs.TakenLines.{passes_empty, takes_header}
use Rattle.xb_findings.proofs.row_lines.take_before_header.Goals as goal

pub returns-then-is_empty : goal.returns-then-is_empty
returns-then-is_empty c =
    passes_empty c.args.n c.args.text.now (lines_of c.args.lines.now) (sym c.if-is_empty.ensures)

pub returns : goal.returns
returns c =
    let text = c.args.text.now in
    takes_header c.args.n text c.without_key.result _ _ c.is_other-told.result _ _ (sym c.if-is_empty.ensures)
    (c.without_key.ensures ∙ ap (λ wrong. with_meant wrong None) (c.what_of_line-wrong.ensures
    ∙ ap (λ separator. what_of_line false separator c.in_ok-header.header) c.in_ok-separator.ensures
    ∙ ap (λ header. what_of_line false (separator_of_header text) header) c.in_ok-header.ensures))
    c.in_ok-new.ensures c.in_ok-new-2.ensures (c.is_other-told.ensures ∙ ap is_other c.in_ok-separator.ensures)
    c.in_ok-push_found.ensures c.in_ok-keep.ensures
