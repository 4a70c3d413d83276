use Rattle.std.proofs.Common.{map, sym, ap, subst, ◌∙◌}
use Rattle.rtrb.specs.Ring.{received, sent}
use Rattle.xb_branches.specs.GatherSteps.{CanGather, sent_of, left_of}
use Rattle.xb_branches.proofs.Gathers.{gathers_sent, gather_law}
use Rattle.xb_branches.proofs.gather.Gather.send.Goals as goal

pub returns-then-is_full-clause-lawful : goal.returns-then-is_full-clause-lawful
returns-then-is_full-clause-lawful g c =
    let i = c.self.inside in
    gather_law g.T.Ending.ending (map received i.consumers.items) _ i.held i.place
    (rw c.is_full.ensures.looked.1 c.self.invariant.0)

pub invariant_of-self-2 : goal.invariant_of-self-2
invariant_of-self-2 g c =
    let i = c.self.inside in
    let can = subst (λ v. CanGather v.held) (sym c.self.view_is) c.requires in
    let item = ap (λ r. r.0) c.release-item.ensures ∙ ap sent_of c.replace.ensures.value in
    let held = ap (λ r. r.1) c.release-item.ensures ∙ ap left_of c.replace.ensures.value in
    rw (c.push_reserved.ensures.sent.0, c.is_full.ensures.looked.1, item, held)
    (gathers_sent g.T.Ending.ending (map received i.consumers.items) (sent i.producer) i.held i.place c.self.invariant.0 can, c.self.invariant.1)

pub returns-clause-lawful : goal.returns-clause-lawful
returns-clause-lawful g c =
    let i = c.self.inside in
    gather_law g.T.Ending.ending (map received i.consumers.items) _ _ i.place (invariant_of-self-2 g c).0
