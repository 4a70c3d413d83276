use Rattle.std.proofs.Common.{◌+◌, ◌∷◌, ◌++◌, ◌∙◌, arith, ap, codes, drop, map, string_bytes, sym}
use Rattle.std.proofs.lemmas.List.{drop_more}
use Rattle.serde_json.specs.Written.{compact_text}
use Rattle.xb_heard.specs.Attempts.{attempt_in}
use Rattle.xb_hear.specs.Objects.{attempt_object, objects_from}
use Rattle.xb_report.proofs.Pushed.{both-rest}
use Rattle.xb_hear.proofs.objects.push_objects.Goals as goal

pub loop-index-preserved : goal.loop-index-preserved
loop-index-preserved c =
    let i = c.loop-index.index in
    let before = c.args.before in
    let limits = c.args.limits in
    let line = c.args.line in
    let attempts = c.args.attempts.now in
    let attempt = c.index-attempts-index.result in
    let later = drop (i + 1) attempts in
    let more = ap (λ all. objects_from before limits line (i + 1) (map attempt_in all))
    (drop_more attempts i attempt (omega arith) ∙ ap (λ a. a ∷ later) (sym c.index-attempts-index.is)) in
    both-rest (string_bytes c.loop-index.out) _
    (compact_text (attempt_object before limits line (i + 1) (attempt_in attempt)) ++ codes "\n")
    (objects_from before limits line (i + 1 + 1) (map attempt_in later))
    c.in_ok-push_object.ensures more ∙ c.loop-index.invariant
