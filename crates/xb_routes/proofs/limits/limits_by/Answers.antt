use Rattle.std.proofs.Common.{◌∙◌}
use Rattle.xb_routes.proofs.ByKey.{numbers-are}
use Rattle.xb_routes.proofs.limits.limits_by.Goals as goal

pub returns-clause-accepted : goal.returns-clause-accepted
returns-clause-accepted c = λ lawful.
    c.limits_from.ensures.value
    ∙ rw (
      c.limit_of.ensures.value,
      c.limit_of-2.ensures.value,
      c.limit_of-3.ensures.value,
      c.limit_of-4.ensures.value,
      c.limit_of-5.ensures.value,
      c.limit_of-6.ensures.value,
    )
    (numbers-are c.args.limits lawful)
