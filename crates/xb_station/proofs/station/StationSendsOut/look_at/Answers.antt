use Rattle.std.proofs.Common.{◌≡◌, sym, ap, subst}
use Rattle.rtrb.specs.Ring.{IsPair}
use Rattle.xb_flow.proofs.Rings.{only_one}
use Rattle.xb_station.proofs.station.StationSendsOut.look_at.Goals as goal

pub look_at_both-requires : goal.look_at_both-requires
look_at_both-requires g c =
    let e : c.self.inside.producer ≡ c.args.self.now.producer = ap (λ v. v.producer) c.self.view_is in
    subst (λ p. IsPair p c.args.end.now) (sym e) (only_one (λ p. IsPair p c.args.end.now) c.args.self.now.producer c.args._j c.requires)
