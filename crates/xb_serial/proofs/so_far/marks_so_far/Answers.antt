use Rattle.std.proofs.Common.{◌≡◌, ℕ, ◌+◌, List, [], ◌∷◌, ◌++◌, take, sym, ap, ◌∙◌, subst}
use Rattle.std.proofs.lemmas.List.{take_more, take_all}
use Rattle.xb_model.specs.declared.mark.Mark.{Mark}
use Rattle.xb_model.specs.declared.on.On.{On}
use Rattle.xb_model.specs.Rows.{LoopRow}
use Rattle.xb_serial.specs.Office.{HasTaken}
use Rattle.xb_serial.specs.Promises.{KeepsPromises}
use Rattle.xb_serial.proofs.Promises.{keeps_promises}
use Rattle.xb_serial.proofs.so_far.marks_so_far.Goals as goal

pub loop-row-preserved : goal.loop-row-preserved
loop-row-preserved c =
    let rows : List LoopRow = c.args.rows.now in
    let marks : List (On Mark) = c.loop-row.marks.items in
    let i : ℕ = c.loop-row.row-index in
    let x : LoopRow = c.row-item.result in
    let taken_rows : take (i + 1) rows ≡ take i rows ++ x ∷ [] = take_more rows i x c.loop-row-test.true ∙ ap (λ y. take i rows ++ y ∷ []) (sym c.row-item.is) in
    let all_marks : c.extend_from_slice.new.self.items ≡ marks ++ c.take.new.self.given = c.in_ok-extend_from_slice.ensures.items ∙ ap (λ given. marks ++ given) c.given.ensures.value in
    record {
      taken = subst (λ zs. HasTaken c.take.new.self zs c.extend_from_slice.new.self.items) (sym taken_rows)
          (subst (λ ms. HasTaken c.take.new.self (take i rows ++ x ∷ []) ms) (sym all_marks)
          (c.take.ensures.taken (take i rows) marks c.loop-row.invariant.taken));
      table = c.take.ensures.table ∙ c.loop-row.invariant.table;
    }

pub returns : goal.returns
returns c =
    let rows : List LoopRow = c.args.rows.now in
    let kept = keeps_promises c.loop-row.live (take c.loop-row.row-index rows) c.loop-row.marks.items c.loop-row.invariant.taken in
    subst (λ table. KeepsPromises table rows c.loop-row.marks.items) (c.loop-row.invariant.table ∙ c.in_ok-live.ensures.table)
    (subst (λ zs. KeepsPromises c.loop-row.live.table zs c.loop-row.marks.items) (take_all c.loop-row.row-index rows c.loop-row-test.false) kept)
