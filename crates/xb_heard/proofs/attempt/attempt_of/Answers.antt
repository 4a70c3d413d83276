use Rattle.std.proofs.Common.{◌≡◌, ◌∙◌, ap, ap₂, is_some, map, refl}
use Rattle.xb_heard.specs.declared.parts.Cut.TheVariants.{AtPauses}
use Rattle.xb_heard.specs.Digits.{digit_in, digits_of, digits_of_parts, unfinished_of, unfinished_of_parts}
use Rattle.xb_heard.specs.Outcomes.{outcome_by, values_of}
use Rattle.xb_heard.specs.Parts.{heard_placed, part_in, parts_of, without_front}
use Rattle.xb_heard.proofs.Numbers.{outcome_of_runs}
use Rattle.xb_heard.proofs.attempt.attempt_of.Goals as goal

pub returns : goal.returns
returns c =
    let plan = c.args.plan in
    let limits = c.args.limits in
    let runs = c.args.runs.now in
    let after = c.without_front.ensures ∙ ap without_front c.hearing_of-hearing.ensures.heard in
    let parts : map part_in c.deref.result.now ≡ parts_of limits AtPauses (without_front (heard_placed limits runs)) =
    ap (map part_in) c.deref.ensures.value ∙ c.in_ok-parts.ensures ∙ ap (parts_of limits AtPauses) after in
    let digits : map digit_in c.in_ok-digits.digits.items ≡ digits_of limits runs =
    c.in_ok-digits.ensures ∙ ap (digits_of_parts limits) parts in
    let left : c.unfinished_of_parts.result.now ≡ unfinished_of limits runs =
    c.unfinished_of_parts.ensures ∙ ap unfinished_of_parts (ap (map part_in) c.deref-3.ensures.value ∙ c.in_ok-parts.ensures
    ∙ ap (parts_of limits AtPauses) after) in
    let timeout = c.hearing_of-hearing.ensures.timeout in
    let outcome = c.outcome_of-outcome.ensures
    ∙ ap₂ (outcome_by plan) (c.is_some.ensures ∙ ap is_some timeout)
    (ap values_of (ap (map digit_in) c.deref-2.ensures.value ∙ digits))
    ∙ outcome_of_runs plan limits runs in
    rw (digits, left, timeout, outcome) refl
