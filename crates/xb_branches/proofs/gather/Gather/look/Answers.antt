use Rattle.std.proofs.Common.{◌≡◌, sym, ap, subst}
use Rattle.std.specs.List.{HoldsAt}
use Rattle.xb_flow.specs.Flows.{counted}
use Rattle.xb_flow.specs.Rings.{IsPairAt, ConsumerLookedAt}
use Rattle.rtrb.specs.Ring.{sent}
use Rattle.xb_branches.specs.GatherSteps.{GatherAgrees, items_in}
use Rattle.xb_branches.proofs.Gathers.{gather_law}
use Rattle.xb_flow.proofs.Rings.{received_looked}
use Rattle.xb_branches.proofs.gather.Gather.look.Goals as goal

pub look_at_input-requires-clause-pair : goal.look_at_input-requires-clause-pair
look_at_input-requires-clause-pair g c =
    let e : c.self.inside.consumers.items ≡ c.args.self.now.consumers = ap (λ v. v.consumers) c.self.view_is in
    subst (λ cs. HoldsAt (λ x. IsPairAt (g.U.Sends.outputs c.args.up.now) c.args.j x) cs c.args.k) (sym e) c.requires.pair

pub invariant_of-self : goal.invariant_of-self
invariant_of-self g c =
    let i = c.self.inside in
    subst (λ ins. GatherAgrees g.T.Ending.ending ins (sent i.producer) i.held i.place × (i.taken ≡ counted (items_in ins)))
    (sym (received_looked i.consumers.items c.args.k c.look_at_input.new.consumers.items c.look_at_input.ensures.consumers)) c.self.invariant

pub returns-clause-consumers : goal.returns-clause-consumers
returns-clause-consumers g c =
    let e : c.self.inside.consumers.items ≡ c.args.self.now.consumers = ap (λ v. v.consumers) c.self.view_is in
    subst (λ cs. ConsumerLookedAt cs c.args.k c.look_at_input.new.consumers.items) e c.look_at_input.ensures.consumers

pub returns-clause-lawful : goal.returns-clause-lawful
returns-clause-lawful g c = gather_law _ _ _ _ _ (invariant_of-self g c).0
