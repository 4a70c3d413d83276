use Rattle.std.proofs.Common.{◌≡◌, ◌+◌, [], ◌∷◌, ◌++◌, List, take, sym, ap, ◌∙◌, subst, append_assoc}
use Rattle.std.proofs.lemmas.List.{take_more, take_all}
use Rattle.xb_model.specs.Rows.{LoopRow}
use Rattle.xb_serial.specs.Taken.{HasHeard}
use Rattle.xb_serial.proofs.loops.Loops.take_all.Goals as goal

pub loop-row-preserved : goal.loop-row-preserved
loop-row-preserved c = λ limits plan earlier taken.
    let rows : List LoopRow = c.args.rows.now in
    let i = c.loop-row.row-index in
    let x : LoopRow = c.row-item.result in
    let more : take (i + 1) rows ≡ take i rows ++ x ∷ [] = take_more rows i x c.loop-row-test.true ∙ ap (λ y. take i rows ++ y ∷ []) (sym c.row-item.is) in
    subst (HasHeard limits plan c.take.new.self)
    (append_assoc earlier (take i rows) (x ∷ []) ∙ ap (λ ys. earlier ++ ys) (sym more))
    (c.in_ok-take.ensures limits plan (earlier ++ take i rows) (c.loop-row.invariant limits plan earlier taken))

pub returns : goal.returns
returns c = λ limits plan earlier taken.
    subst (λ ys. HasHeard limits plan c.loop-row.self (earlier ++ ys))
    (take_all c.loop-row.row-index c.args.rows.now c.loop-row-test.false) (c.loop-row.invariant limits plan earlier taken)
