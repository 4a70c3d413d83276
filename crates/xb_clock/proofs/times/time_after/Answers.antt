use Rattle.std.proofs.Common.{◌∙◌, ap, arith, FitsSigned, ◌+ℤ◌}
use Rattle.std.proofs.lemmas.Int.{to_z-of_z}
use mir.Syntax.{w128}
use Rattle.jiff_core.proofs.SignedLemmas.{signed_arith}
use Rattle.xb_clock.proofs.TimesTold.{time-printed}
use Rattle.xb_clock.proofs.times.time_after.Goals as goal

pub returns-in-Ok-clause-told : goal.returns-in-Ok-clause-told
returns-in-Ok-clause-told c =
    let fits : FitsSigned w128 c.nanos.result = omega (arith, signed_arith) in
    time-printed c.new.result c.args.since c.in-Ok.time c.args.ms c.nanos.result _ c.new.ensures
    (c.in-Ok.ensures.value ∙ ap (λ n. c.args.since.nanosecond +ℤ n) (to_z-of_z w128 c.nanos.result fits))
    c.nanos.ensures c.timestamp_text.ensures
