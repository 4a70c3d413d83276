use Rattle.std.proofs.Common.{◌≡◌, ◌∙◌, List, false, get_or, arith, sym, ap, subst}
use Rattle.std.proofs.lemmas.List.{get_or_read}
use Rattle.xb_run.specs.declared.done.StationDone.{StationDone}
use Rattle.xb_run.proofs.senders.unserved_sender.Goals as goal

pub returns-then-not-done-clause-some : goal.returns-then-not-done-clause-some
returns-then-not-done-clause-some g c =
    let i = c.loop-done.invariant in
    let y = c.deref-done-items.ensures in
    let k = c.loop-done.done-index in
    let item = c.done-item.result in (
      omega (arith, i.number, c.loop-done-test.true, y.len),
      λ d.
          subst (λ n. (get_or c.args.all.now.items n d).served ≡ false) (sym i.number)
          (subst (λ (xs : List (StationDone g.row.A.Denot g.row.B.Denot)). (get_or xs k d).served ≡ false) y.value
          (ap (λ (x : StationDone g.row.A.Denot g.row.B.Denot). x.served) (sym (get_or_read c.deref-done-items.result.now k item c.loop-done-test.true c.done-item.is d))
          ∙ c.if-not-done.true)),
    )

pub overflow_add-number : goal.overflow_add-number
overflow_add-number g c =
    omega (arith, c.requires.few, c.loop-done.invariant.number, c.loop-done-test.true, c.deref-done-items.ensures.len)
