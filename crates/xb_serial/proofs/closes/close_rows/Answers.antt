use Rattle.std.proofs.Common.{◌≡◌, ◌∷◌, [], ◌++◌, map, sym, ap, ◌∙◌, arith}
use Rattle.xb_model.specs.declared.line.TheConstants.{LINES}
use Rattle.xb_model.specs.Lines.{lines_below}
use Rattle.xb_model.specs.Rows.{LoopRow, close_row}
use Rattle.xb_model.proofs.LinesBelow.{lines_below-none}
use Rattle.xb_images.proofs.ClosedAll.{closes_more}
use Rattle.xb_serial.proofs.closes.close_rows.Goals.{in-Some+in_ok-push, in_default}
use Rattle.xb_serial.proofs.closes.close_rows.Goals as goal

pub loop-number-init : goal.loop-number-init
loop-number-init c = c.in_ok-rows.ensures.items ∙ sym (ap (map close_row) lines_below-none)

pub loop-number-preserved : goal.loop-number-preserved
loop-number-preserved c =
    let n = c.loop-number.number in
    elim c.match-new.branch [
      | in-Some+in_ok-push w ↦
          rw w.rows-is
          (w.in_ok-push.ensures.items
          ∙ ap (λ items. items ++ w.close.result ∷ []) c.loop-number.invariant
          ∙ ap (λ (x : LoopRow). map close_row (lines_below n) ++ x ∷ []) (w.close.ensures ∙ ap close_row w.in-Some.ensures.value)
          ∙ sym (closes_more n))
      | in_default w ↦ absurd (cc (w.in_default.ensures.variant.1 c.loop-number-test.true))
    ]

pub returns : goal.returns
returns c =
    let last : c.loop-number.number ≡ LINES = omega (arith, c.loop-number-test.false, c.loop-number.auto.number-end) in
    c.loop-number.invariant ∙ ap (λ n. map close_row (lines_below n)) last
