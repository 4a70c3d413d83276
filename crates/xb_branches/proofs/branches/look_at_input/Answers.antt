use Rattle.std.proofs.Common.{sym, subst}
use Rattle.xb_flow.specs.Rings.{IsPairAt}
use Rattle.xb_branches.proofs.branches.look_at_input.Goals as goal

pub look_at-requires : goal.look_at-requires
look_at-requires g c =
    let consumer = c.index_mut-consumer.result.now in
    subst (λ x. IsPairAt (g.U.Sends.outputs c.args.up.now) c.args.j x) (sym c.index_mut-consumer.ensures.value) (c.requires.pair consumer)
