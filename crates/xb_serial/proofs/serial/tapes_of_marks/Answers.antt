use Rattle.std.proofs.Common.{◌≡◌, ℕ, ◌+◌, List, [], ◌∷◌, ◌++◌, take, sym, ap, ◌∙◌, subst}
use Rattle.std.proofs.lemmas.List.{take_more}
use Rattle.xb_model.specs.declared.on.On.{On}
use Rattle.xb_model.specs.declared.mark.Mark.{Mark}
use Rattle.xb_tape.specs.GatheredMarks.{AreTapes}
use Rattle.xb_tape.proofs.MarksInOrder.{are_tapes-none, are_tapes-more}
use Rattle.xb_serial.proofs.serial.tapes_of_marks.Goals as goal

pub loop-mark-init : goal.loop-mark-init
loop-mark-init c = are_tapes-none _ c.in_ok-tapes.ensures.lines c.in_ok-tapes.ensures.blank

pub loop-mark-preserved : goal.loop-mark-preserved
loop-mark-preserved c =
    let marks : List (On Mark) = c.args.marks.now in
    let i : ℕ = c.loop-mark.mark-index in
    let x : On Mark = c.mark-item.result in
    let e : take (i + 1) marks ≡ take i marks ++ x ∷ [] = take_more marks i x c.loop-mark-test.true ∙ ap (λ y. take i marks ++ y ∷ []) (sym c.mark-item.is) in
    subst (λ zs. AreTapes c.push.new.self zs) (sym e) (are_tapes-more _ _ _ x c.loop-mark.invariant c.push.ensures.line c.in_ok-push.ensures.ok)
