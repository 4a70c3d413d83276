use Rattle.std.proofs.Common.{◌++◌, ◌+◌, Option, Err, None, Ok, drop, get_or, refl, subst, sym, take}
use Rattle.std.proofs.lemmas.Result.{err_from_is_err_and}
use Rattle.xb_riff.specs.declared.head.WavFormat.{WavFormat}
use Rattle.xb_riff.specs.Heads.{HeadSoFar, TakesByte, TakesHead}
use Rattle.xb_riff.proofs.HeadLemmas.{head_more, head_then, head_whole}
use Rattle.xb_riff.proofs.head.WavHead.take.Goals as goal

pub returns-in-Some-clause-taken : goal.returns-in-Some-clause-taken
returns-in-Some-clause-taken c = λ rest.
    let bytes = c.args.bytes.now in
    let i = c.loop-i.i in
    let P : Option WavFormat → Type 0 = λ found. TakesByte c.loop-i.self (get_or bytes i 0) found c.take_byte.new.self in
    let here = subst P c.in-Some.is c.in_ok-format.ensures.taken in
    head_then c.args.self.now c.loop-i.self bytes rest i (Ok (c.in-Some.format, drop (i + 1) bytes ++ rest))
    c.loop-i-test.true c.loop-i.invariant (here (drop (i + 1) bytes ++ rest))

pub returns-in_err-format-clause-refused : goal.returns-in_err-format-clause-refused
returns-in_err-format-clause-refused c =
    let p = err_from_is_err_and c.from_residual.result c.from_residual.ensures.1 in
    let bytes = c.args.bytes.now in
    let i = c.loop-i.i in
    rw (p.1, p.2) (λ rest. head_then c.args.self.now c.loop-i.self bytes rest i (Err c.in_err-format.field-0.0)
    c.loop-i-test.true c.loop-i.invariant (c.in_err-format.ensures.refused (drop (i + 1) bytes ++ rest)))

pub returns-in_err-format-clause-stands : goal.returns-in_err-format-clause-stands
returns-in_err-format-clause-stands c =
    let p = err_from_is_err_and c.from_residual.result c.from_residual.ensures.1 in
    let P : HeadSoFar → Type 0 = λ head. TakesHead c.args.self.now (take c.loop-i.i c.args.bytes.now) None head in
    rw p.1 (c.loop-i.i, c.loop-i-test.true, subst P (sym c.in_err-format.ensures.kept) c.loop-i.invariant)

pub loop-i-init : goal.loop-i-init
loop-i-init c = λ rest. refl

pub loop-i-preserved : goal.loop-i-preserved
loop-i-preserved c =
    head_more c.args.self.now c.loop-i.self c.take_byte.new.self c.args.bytes.now c.loop-i.i c.in_ok-format.field-0
    c.loop-i-test.true c.in_default.is c.loop-i.invariant c.in_ok-format.ensures.taken

pub returns-clause-taken : goal.returns-clause-taken
returns-clause-taken c =
    head_whole c.args.self.now c.loop-i.self c.args.bytes.now c.loop-i.i c.loop-i-test.false c.loop-i.invariant
