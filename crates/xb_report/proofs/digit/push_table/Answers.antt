use Rattle.std.proofs.Common.{◌≡◌, ◌==◌, false, length, map, refl, sym}
use Rattle.std.proofs.lemmas.List.{length-map}
use Rattle.xb_heard.specs.Digits.{digit_in}
use Rattle.xb_report.specs.ReportTexts.{table_text}
use Rattle.xb_report.proofs.Pushed.{last}
use Rattle.xb_report.proofs.digit.push_table.Goals as goal

pub returns : goal.returns
returns c =
    let digits = map digit_in c.args.digits.now in
    let some : (length digits == 0) ≡ false = rw length-map (sym c.if-is_empty.ensures) in
    last c.push_digits.result _ _ _ _ _ (table_text c.args.limits c.args.outcome.now digits)
    c.in_ok-push_str.ensures.bytes c.push_digits.ensures (rw some refl)
