use Rattle.std.proofs.Common.{◌+◌, ◌∷◌, ◌∙◌, arith, ap, drop, map, string_bytes, sym}
use Rattle.std.proofs.lemmas.List.{drop_more}
use Rattle.xb_heard.specs.Attempts.{attempt_in}
use Rattle.xb_report.specs.ReportTexts.{attempt_text, attempts_from}
use Rattle.xb_report.proofs.Pushed.{both-rest}
use Rattle.xb_report.proofs.report.push_attempts.Goals as goal

pub loop-index-preserved : goal.loop-index-preserved
loop-index-preserved c =
    let i = c.loop-index.index in
    let limits = c.args.limits in
    let line = c.args.line in
    let attempts = c.args.attempts.now in
    let attempt = c.index-attempts-index.result in
    let later = drop (i + 1) attempts in
    let more = ap (λ all. attempts_from limits line (i + 1) (map attempt_in all))
    (drop_more attempts i attempt (omega arith) ∙ ap (λ a. a ∷ later) (sym c.index-attempts-index.is)) in
    both-rest (string_bytes c.loop-index.out) _ (attempt_text limits line (i + 1) (attempt_in attempt))
    (attempts_from limits line (i + 1 + 1) (map attempt_in later))
    c.in_ok-push_attempt.ensures more ∙ c.loop-index.invariant
