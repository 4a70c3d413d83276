use Rattle.std.proofs.Common.{◌+◌, ◌++◌, refl, sym, ap, ◌∙◌, arith}
use Rattle.std.specs.Prelude.{option_copied}
use Rattle.xb_findings.specs.Steps.{faults_after, kept_after, lines_of}
use Rattle.xb_findings.specs.Tallies.{with_all}
use Rattle.xb_findings.specs.TextLines.{lines_left}
use Rattle.xb_findings.proofs.TakenLines.{none_kept, none_left}
use Rattle.xb_findings.proofs.TextLines.{few_lines}
use Rattle.xb_findings.proofs.row_lines.read_rows.Goals as goal

pub loop-left-init : goal.loop-left-init
loop-left-init c =
    let few = few_lines c.args.rows.now in
    record {
      found = refl;
      kept = refl;
      few = omega (arith, few);
    }

pub returns : goal.returns
returns c =
    let l = c.loop-left in
    let n = l.n + 1 in
    record {
      found =
          sym (l.invariant.found
          ∙ ap (λ left. with_all (lines_of l.lines).tally (faults_after l.part n (lines_left (option_copied left)))) c.in_default.is
          ∙ none_left l.part n (lines_of l.lines).tally);
      kept =
          sym (l.invariant.kept
          ∙ ap (λ left. (lines_of l.lines).kept ++ kept_after l.part n (lines_left (option_copied left))) c.in_default.is
          ∙ none_kept l.part n (lines_of l.lines).kept);
    }
