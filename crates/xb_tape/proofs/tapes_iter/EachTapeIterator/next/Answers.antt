use Rattle.std.proofs.Common.{◌<◌, length, arith, rules}
use Rattle.xb_tape.proofs.LineLists.{line-first}
use Rattle.xb_tape.proofs.tapes_iter.EachTapeIterator.next.Goals as goal

pub returns-clause-steps : goal.returns-clause-steps
returns-clause-steps c =
    let lines = c.self.inside.lines.now in
    let list = c.get-marks.result.now in
    let below : c.in_ok-line.line < length lines = omega (arith, c.get-marks.ensures.below, c.get-marks.ensures.lines) in
    let first = line-first (λ v. v.items) lines c.self.inside.number c.in_ok-line.line list below c.in_ok-line.ensures.value (c.get-marks.ensures.value list) in
    rw (← c.self.view_is, c.as_slice.ensures.value) first

pub returns-clause-goes : goal.returns-clause-goes
returns-clause-goes c = let first = returns-clause-steps c in search rules
