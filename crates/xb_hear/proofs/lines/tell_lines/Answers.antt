use Rattle.std.proofs.Common.{◌≡◌, ◌∙◌, ap, false, true}
use Rattle.xb_heard.specs.Attempts.{heard_attempts}
use Rattle.xb_hear.proofs.OfLines.{runs-of-line}
use Rattle.xb_hear.proofs.ToldLines.{tells-more, tells-start}
use Rattle.xb_hear.proofs.lines.tell_lines.Goals as goal
use Rattle.xb_hear.proofs.lines.tell_lines.Goals.{in-Some+in_ok-hear_line, in_default}

pub loop-number-init : goal.loop-number-init
loop-number-init c =
    tells-start c.args.manner c.args.choice c.args.plan c.args.rows.now _ c.new.ensures.bytes c.new-2.ensures.items
    c.new-3.ensures.items

pub loop-number-preserved : goal.loop-number-preserved
loop-number-preserved c = elim c.match-new.branch [
  | in-Some+in_ok-hear_line w ↦
      let manner = c.args.manner in
      let plan = c.args.plan in
      let rows = c.args.rows.now in
      let runs = w.deref.ensures.value ∙ runs-of-line (λ v. v.items) c.in_ok-lines.lines rows w.in-Some.line w.get.result.now
      w.get.ensures.lines w.get.ensures.below w.get.ensures.value c.in_ok-lines.ensures.placed in
      rw w.told-is (tells-more manner c.args.choice plan rows c.loop-number.number w.in-Some.line _ _ _ c.loop-number.invariant
      w.in_ok-hear_line.ensures (ap (heard_attempts plan manner.limits) runs) w.in-Some.ensures.value)
  | in_default w ↦
      let bad : false ≡ true = rw w.in_default.is at (c.new-in-loop-number.ensures.variant.1 c.loop-number-test.true) in
      absurd (let no : ⊥ = cc in no)
]
