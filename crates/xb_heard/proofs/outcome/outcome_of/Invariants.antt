use Rattle.std.proofs.Common.{◌≡◌, drop, map}
use Rattle.xb_heard.specs.Digits.{digit_in}
use Rattle.xb_heard.specs.Outcomes.{outcome_by, values_of}
use Rattle.xb_heard.proofs.Numbers.{outcome_after}
use Rattle.xb_model.proofs.Pending.{IsPending}
use Rattle.xb_heard.proofs.outcome.outcome_of.Given as goal

abbrev pub invariant-loop-digit : goal.invariant-loop-digit
invariant-loop-digit l = record {
  pending : IsPending l.plan l.good;
  rest : outcome_after l.plan l.timed l.good (values_of (map digit_in (drop l.digit-index l.digits)))
      ≡ outcome_by l.plan l.timed (values_of (map digit_in l.digits));
}
