use Rattle.std.proofs.Common.{ap, ◌∙◌, None}
use Rattle.std.specs.Prelude.{◌||◌}
use Rattle.xb_findings.specs.Records.{closed_of, what_of_record, with_point}
use Rattle.xb_findings.specs.Separators.{is_other, separator_of, what_of_line}
use Rattle.xb_findings.specs.Findings.{with_meant}
use Rattle.xb_findings.proofs.TakenLines.{takes_record}
use Rattle.xb_findings.proofs.row_lines.take_record.Goals as goal

pub returns : goal.returns
returns c =
    let read = c.in_ok-read.read in
    let text = c.args.text.now in
    let told = c.args.told in
    takes_record c.args.closes.now c.close_by.new.closes c.args.seen.now c.keep_first.new.seen told c.is_told.result
    c.args.n text read.said c.without_key.result _ _ c.in_ok-read.ensures.said
    (c.without_key.ensures ∙ ap (λ wrong. with_meant wrong None) (c.what_of_line-wrong.ensures
    ∙ ap (λ separator. what_of_line told separator c.with_point-what.result) c.in_ok-read.ensures.separator
    ∙ ap (λ what. what_of_line told (separator_of text) what) (c.with_point-what.ensures
    ∙ ap (λ what. with_point text what) (c.what_of_record.ensures
    ∙ ap (λ said. what_of_record (closed_of c.args.closes.now) said) c.in_ok-read.ensures.said))))
    c.close_by.ensures c.in_ok-keep_first.ensures.seen
    (c.is_told.ensures ∙ ap (λ separator. told || is_other separator) c.in_ok-read.ensures.separator)
    c.in_ok-push_found.ensures c.in_ok-keep_first.ensures.kept
