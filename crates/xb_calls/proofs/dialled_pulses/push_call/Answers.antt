use Rattle.std.proofs.Common.{◌≡◌, ◌<◌, ◌++◌, ℕ, List, ap, ◌∙◌, length, get_or, subst}
use Rattle.std.proofs.lemmas.List.Elements.{All-more}
use Rattle.xb_model.specs.declared.digit.TheConstants.{DIGITS}
use Rattle.xb_calls.specs.Dialling.{digit_runs, on_line}
use Rattle.xb_calls.proofs.Pulses.{digit-more}
use Rattle.xb_calls.proofs.dialled_pulses.push_call.Goals as goal

pub loop-digit-preserved : goal.loop-digit-preserved
loop-digit-preserved c =
    let digits : List ℕ = c.args.call.now.digits in
    let i : ℕ = c.loop-digit.digit-index in
    let digit : ℕ = c.digit-item.result in
    let now : c.digits-digit-items.result.now ≡ digits = c.digits-digit-items.ensures in
    let below : i < length digits = subst (λ all. i < length all) now c.loop-digit-test.true in
    let is : digit ≡ get_or digits i digit = c.digit-item.is ∙ ap (λ all. get_or all i digit) now in
    let made = c.in_ok-push_digit.ensures.rows
    ∙ ap (λ l. c.loop-digit.rows.items ++ on_line l (digit_runs c.args.speed digit)) c.line-line.ensures
    in
    record {
      rows = digit-more c.args.speed c.args.call.now.line i digits digit c.args.rows.now.items
          c.loop-digit.rows.items c.push_digit.new.rows.items below is c.loop-digit.invariant.rows made;
      digits = All-more (λ d. d < DIGITS) digits i digit below c.loop-digit.invariant.digits
          (subst (λ d. d < DIGITS) is c.in_ok-push_digit.ensures.below);
    }
