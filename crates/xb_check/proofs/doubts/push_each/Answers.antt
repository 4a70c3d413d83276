use Rattle.std.proofs.Common.{◌∙◌, ◌+◌, ◌<◌, List, [], sym, drop, get_or, length, map, arith}
use Rattle.std.proofs.lemmas.List.{at_drop_more}
use Rattle.std.specs.List.{flat_map}
use Rattle.xb_doubts.specs.Lines.{told_by}
use Rattle.xb_check.specs.Doubts.{doubt_at}
use Rattle.xb_findings.specs.declared.kept_lines.KeptLine.{KeptLine}
use Rattle.xb_findings.specs.declared.kept_lines.LineKind.TheVariants.{Header}
use Rattle.xb_findings.specs.Kept.{Kept, kept_line_of}
use Rattle.xb_findings.specs.Tallies.{tallied, with_all}
use Rattle.xb_check.proofs.Doubting.{told_more}
use Rattle.xb_check.proofs.doubts.push_each.Goals as goal

pub loop-line-preserved : goal.loop-line-preserved
loop-line-preserved c =
    let l = c.loop-line in
    let kept = c.args.kept.now in
    let i = l.line-index in
    let before = tallied l.tally in
    let doubts = λ (line : Kept). doubt_at c.args.whole.unit c.args.whole.is_ringing (told_by c.args.lines.now) line in
    let told = λ (some : List KeptLine). with_all before (flat_map doubts (map kept_line_of some)) in
    let none : KeptLine = record { n = 0; text = record { ref_ptr = (0, 0); now = [] }; kind = Header } in
    let within : i < length kept = omega (arith, c.loop-line-test.true) in
    told_more doubts before (tallied c.push_doubt.new.tally) (kept_line_of (get_or kept i none))
    (map kept_line_of (drop (i + 1) kept)) c.in_ok-push_doubt.ensures
    ∙ sym (at_drop_more told kept i none within) ∙ l.invariant
