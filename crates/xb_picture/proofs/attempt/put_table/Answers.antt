use Rattle.std.proofs.Common.{◌≡◌, ◌-◌, ◌++◌, ◌∙◌, ap, ap₂, length, map, sym, take}
use Rattle.std.proofs.lemmas.List.{length-map, take-map, take_min}
use Rattle.std.proofs.Math.Nat.{min_comm}
use Rattle.xb_heard.specs.Digits.{digit_in}
use Rattle.xb_picture.specs.Attempts.{more_words, table_words}
use Rattle.xb_picture.specs.Digits.{digits_words}
use Rattle.xb_picture.specs.Said.{says}
use Rattle.xb_picture.proofs.Said.{last}
use Rattle.xb_picture.proofs.attempt.put_table.Goals as goal

pub returns : goal.returns
returns c =
    let digits = c.args.digits.now in
    let shown : map digit_in (take c.min.result digits) ≡ take 24 (map digit_in digits) =
    ap (λ n. map digit_in (take n digits)) (c.min.ensures ∙ min_comm (length digits) 24)
    ∙ ap (map digit_in) (take_min 24 digits) ∙ sym (take-map digit_in 24 digits) in
    last c.put_more.result (says c.args.sheet.now) _ _ _ _ (table_words c.args.limits c.args.outcome.now (map digit_in digits))
    c.in_ok-put_digits.ensures c.put_more.ensures
    (ap₂ (λ all more. digits_words c.args.limits c.args.outcome.now 0 all ++ more_words more) shown
    (c.saturating_sub.ensures ∙ ap (λ n. n - 24) (sym (length-map digits digit_in))))
