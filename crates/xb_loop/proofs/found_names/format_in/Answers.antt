use Rattle.std.proofs.Common.{◌≡◌, Err, rules, subst, ◌∙◌, Option, ℕ}
use Rattle.xb_riff.specs.declared.head.WavFormat.{WavFormat}
use Rattle.xb_riff.specs.Heads.{TakesHead}
use Rattle.xb_loop.proofs.Heads.{head_found, head_refused}
use Rattle.xb_loop.proofs.found_names.format_in.Goals as goal

pub returns-in_err-format : goal.returns-in_err-format
returns-in_err-format c =
    let fault : c.from_residual.result ≡ Err c.in_err-format.field-0.0 = search rules in
    fault ∙ head_refused c.new-head.result c.args.beginning.now c.in_err-format.field-0.0 c.new-head.ensures
    c.in_err-format.ensures.refused

pub returns-in-Some : goal.returns-in-Some
returns-in-Some c =
    let T : Option (WavFormat × ℕ) → Type 0 = λ found. TakesHead c.new-head.result c.args.beginning.now found c.take.new.self in
    head_found c.new-head.result c.take.new.self c.args.beginning.now c.in-Some.format c.in-Some.field-0-1 c.new-head.ensures
    (subst T c.in-Some.is c.in_ok-format.ensures.taken)
