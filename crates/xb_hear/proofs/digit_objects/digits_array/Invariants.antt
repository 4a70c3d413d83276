use Rattle.std.proofs.Common.{◌≡◌, ◌++◌, drop, map}
use Rattle.serde_json.specs.View.{view}
use Rattle.xb_heard.specs.Digits.{digit_in}
use Rattle.xb_hear.specs.Objects.{digits_from}
use Rattle.xb_hear.proofs.digit_objects.digits_array.Given as goal

abbrev pub invariant-loop-index : goal.invariant-loop-index
invariant-loop-index l =
    map view l.values.items ++ digits_from l.before l.limits l.outcome l.index (map digit_in (drop l.index l.digits))
    ≡ digits_from l.before l.limits l.outcome 0 (map digit_in l.digits)
