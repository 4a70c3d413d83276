use Rattle.std.proofs.Common.{◌≡◌, ◌+◌, ◌-◌, ◌^◌, min, length, sym, ap, ◌∙◌}
use Rattle.rtrb.specs.Ring.{received}
use Rattle.xb_branches.specs.declared.held.Held.TheVariants.{Nothing}
use Rattle.xb_flow.specs.Flows.{items_of, counted}
use Rattle.xb_branches.proofs.Deals.{deals_taken, deals_counted}
use Rattle.xb_branches.proofs.deal.Deal.take.Goals as goal

pub invariant_of-self-2 : goal.invariant_of-self-2
invariant_of-self-2 g c =
    let i = c.self.inside in
    let law = c.self.invariant.0 in
    let none : i.held ≡ Nothing = ap (λ v. v.held) c.self.view_is ∙ c.requires in
    let more = c.in-Ok.ensures.ok.0 in
    let count = c.saturating_add-self-inside.ensures ∙ ap (λ k. min (i.taken + k) (2 ^ 64 - 1)) c.count.ensures in
    rw c.holding-held.ensures (
      deals_taken _ _ _ _ law none c.in-Ok.taken c.pop.new.self more,
      count ∙ (deals_counted i.held i.place _ (received i.consumer) none law.at c.in-Ok.taken i.taken c.self.invariant.1
          ∙ ap (λ xs. counted (length (items_of xs))) (sym more)),
    )

pub returns-clause-lawful : goal.returns-clause-lawful
returns-clause-lawful g c = (invariant_of-self-2 g c).0
