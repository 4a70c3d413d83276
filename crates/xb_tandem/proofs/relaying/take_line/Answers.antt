use Rattle.std.proofs.Common.{◌≡◌, ◌∙◌, Ok, Err, Some, ap, rules, subst, sym}
use Rattle.std.proofs.lemmas.Result.{err_from_is_err_and}
use Rattle.xb_tandem.specs.KeyLines.{key_of_line}
use Rattle.xb_tandem.specs.Relaying.{TakesLine}
use Rattle.xb_tandem.proofs.Taken.{began-key, began-none}
use Rattle.xb_tandem.proofs.relaying.take_line.Goals as goal

pub returns-in_err-take-in-Ok-Some-clause-written : goal.returns-in_err-take-in-Ok-Some-clause-written
returns-in_err-take-in-Ok-Some-clause-written g c = λ limit keys start has.
    let said : key_of_line c.args.line.now ≡ Ok (Some c.in-Ok-Some.key) = search rules in
    let p = err_from_is_err_and c.from_residual.result c.from_residual.ensures.1 in
    subst (λ r. TakesLine limit c.take.new.self keys c.args.number c.args.line.now r start (g.W.Write.contents c.take.new.out))
    (sym (p.1 ∙ ap Err p.2))
    (began-key limit c.args.number c.take.new.self keys c.in-Ok-Some.key c.args.line.now c.in_err-take-in-Ok-Some.field-0.0 start _ said
    (c.in_err-take-in-Ok-Some.ensures.written limit keys start has))

pub returns-in_ok-take-in-Ok-Some-clause-written : goal.returns-in_ok-take-in-Ok-Some-clause-written
returns-in_ok-take-in-Ok-Some-clause-written g c = λ limit keys start has.
    let said : key_of_line c.args.line.now ≡ Ok (Some c.in-Ok-Some.key) = search rules in
    (Some c.in-Ok-Some.key, said, c.in_ok-take-in-Ok-Some.ensures.written limit keys start has)

pub returns-in-Err-NoMemory-clause-written : goal.returns-in-Err-NoMemory-clause-written
returns-in-Err-NoMemory-clause-written g c = λ limit keys start has.
    began-none limit c.args.office.now keys c.args.line.now start _ has
