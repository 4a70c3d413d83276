use Rattle.std.proofs.Common.{codes, decimal, string_bytes, Some}
use Rattle.xb_report.specs.ReportTexts.{release_text}
use Rattle.xb_report.proofs.Pushed.{both, last, sentence, str}
use Rattle.xb_report.proofs.attempt.push_release.Goals as goal

pub returns-in_ok-push_place-in-Some : goal.returns-in_ok-push_place-in-Some
returns-in_ok-push_place-in-Some c =
    let o = string_bytes c.args.out.now in
    let r = c.push_str-in-Some.result in
    let ms = both o _ _ _ _ c.in_ok-push_str-in-Some.ensures.bytes c.in_ok-write-in-Some.ensures.bytes in
    let place = both o _ _ _ _ ms c.in_ok-push_place-in-Some.ensures in
    let end = str r _ _ (codes "\n") c.push_str-in-Some.ensures.bytes in
    rw c.in-Some.is (last r o _ _ _ _ (release_text (Some c.in-Some.run')) place end
    (sentence (codes "  hung up for ") (decimal c.in-Some.run'.ms) (codes " ms at ") _ (codes "\n")))
