use Rattle.std.proofs.Common.{◌∙◌, ap}
use Rattle.xb_keys.specs.Spots.{before_value}
use Rattle.xb_keys.specs.Walks.{walk_of}
use Rattle.xb_keys.proofs.Walking.{turn_of_after, turn_of_key, turn_of_value}
use Rattle.xb_keys.proofs.walk.turn.Goals as goal

pub returns-in-Key : goal.returns-in-Key
returns-in-Key c =
    rw (turn_of_key c.args.total (walk_of c.args.walk.now) c.args.text.now c.skip_blank.result.now c.in-Key.is
    c.skip_blank.ensures.rest) at c.turn_key.ensures

pub returns-in-Value : goal.returns-in-Value
returns-in-Value c =
    rw (turn_of_value c.args.total (walk_of c.args.walk.now) c.args.text.now c.in-Value.section
    c.before_value-start.result.now c.in-Value.is
    (c.before_value-start.ensures ∙ ap (λ nests. before_value nests c.args.text.now) c.deref.ensures.value))
    at c.turn_value.ensures

pub returns-in-After : goal.returns-in-After
returns-in-After c =
    rw (turn_of_after c.args.total (walk_of c.args.walk.now) c.args.text.now c.in-After.is) at c.turn_after.ensures
