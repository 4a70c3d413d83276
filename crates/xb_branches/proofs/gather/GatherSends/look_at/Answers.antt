use Rattle.std.proofs.Common.{◌≡◌, map, sym, ap, subst}
use Rattle.rtrb.specs.Ring.{IsPair, ProducerLooked, received, sent}
use Rattle.xb_branches.specs.Gathers.{GatherOf}
use Rattle.xb_branches.proofs.Gathers.{gather_law}
use Rattle.xb_flow.proofs.Rings.{only_one}
use Rattle.xb_branches.proofs.gather.GatherSends.look_at.Goals as goal

pub look_at_both-requires : goal.look_at_both-requires
look_at_both-requires g c =
    let e : c.self.inside.producer ≡ c.args.self.now.producer = ap (λ v. v.producer) c.self.view_is in
    subst (λ p. IsPair p c.args.end.now) (sym e) (only_one (λ p. IsPair p c.args.end.now) c.args.self.now.producer c.args._j c.requires)

pub returns-clause-post : goal.returns-clause-post
returns-clause-post g c =
    let i = c.self.inside in
    let end = c.look_at_both.new.producer in
    let law = gather_law g.T.Ending.ending (map received i.consumers.items) (sent end) i.held i.place (rw c.look_at_both.ensures.producer.1 c.self.invariant.0) in (
      ap (λ (v : GatherOf _ _ _ _). record v { producer = end }) c.self.view_is,
      subst (λ p. ProducerLooked p end) (ap (λ v. v.producer) c.self.view_is) c.look_at_both.ensures.producer,
      law,
    )
