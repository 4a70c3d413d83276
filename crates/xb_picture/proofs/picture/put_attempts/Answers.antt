use Rattle.std.proofs.Common.{◌≡◌, ◌+◌, ◌∷◌, ◌∙◌, arith, ap, drop, map, sym}
use Rattle.std.proofs.lemmas.List.{drop_more}
use Rattle.xb_heard.specs.Attempts.{attempt_in}
use Rattle.xb_picture.specs.Attempts.{attempt_words}
use Rattle.xb_picture.specs.Pictures.{attempts_words}
use Rattle.xb_picture.specs.Said.{says}
use Rattle.xb_picture.proofs.Said.{both-rest}
use Rattle.xb_picture.proofs.picture.put_attempts.Goals as goal

pub loop-index-preserved : goal.loop-index-preserved
loop-index-preserved c =
    let i = c.loop-index.index in
    let n = c.args.before + i + 1 in
    let limits = c.args.limits in
    let attempts = c.args.attempts.now in
    let attempt = c.index-attempts-index.result in
    let later = drop (i + 1) attempts in
    let next : c.args.before + (i + 1) + 1 ≡ n + 1 = omega arith in
    let more = ap (λ all. attempts_words limits n (map attempt_in all))
    (drop_more attempts i attempt (omega arith) ∙ ap (λ a. a ∷ later) (sym c.index-attempts-index.is)) in
    rw next (both-rest (says c.loop-index.sheet) _ (attempt_words limits n (attempt_in attempt))
    (attempts_words limits (n + 1) (map attempt_in later)) c.in_ok-put_attempt.ensures more ∙ c.loop-index.invariant)
