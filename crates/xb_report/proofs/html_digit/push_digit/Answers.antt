use Rattle.std.proofs.Common.{codes, decimal, string_bytes}
use Rattle.xb_report.specs.Cells.{at_right, extent_text, tenths_or_dash}
use Rattle.xb_report.specs.ReportTexts.{name_text}
use Rattle.xb_report.specs.Rows.{digit_row, next, remark_cell}
use Rattle.xb_report.proofs.Joined.{seventeen}
use Rattle.xb_report.proofs.Pushed.{both, last, str}
use Rattle.xb_report.proofs.html_digit.push_digit.Goals as goal

pub returns : goal.returns
returns c =
    let o = string_bytes c.args.out.now in
    let row = c.args.row in
    let name = both o _ _ _ _ c.in_ok-push_str.ensures.bytes c.in_ok-push_name.ensures in
    let n1 = both o _ _ _ _ name c.in_ok-push_str-2.ensures.bytes in
    let number = both o _ _ _ _ n1 c.in_ok-push_number.ensures in
    let n2 = both o _ _ _ _ number c.in_ok-push_str-3.ensures.bytes in
    let speed = both o _ _ _ _ n2 c.in_ok-push_tenths.ensures in
    let n3 = both o _ _ _ _ speed c.in_ok-push_str-4.ensures.bytes in
    let share = both o _ _ _ _ n3 c.in_ok-push_tenths-2.ensures in
    let n4 = both o _ _ _ _ share c.in_ok-push_str-5.ensures.bytes in
    let breaks = both o _ _ _ _ n4 c.in_ok-push_extent.ensures in
    let n5 = both o _ _ _ _ breaks c.in_ok-push_str-6.ensures.bytes in
    let makes = both o _ _ _ _ n5 c.in_ok-push_extent-2.ensures in
    let n6 = both o _ _ _ _ makes c.in_ok-push_str-7.ensures.bytes in
    let pause = both o _ _ _ _ n6 c.in_ok-push_number-2.ensures in
    let n7 = both o _ _ _ _ pause c.in_ok-push_str-8.ensures.bytes in
    let remark = both o _ _ _ _ n7 c.in_ok-push_remark.ensures in
    let end = str c.push_str-9.result _ _ (codes "</td></tr>\n") c.push_str-9.ensures.bytes in
    last c.push_str-9.result o _ _ _ _ (digit_row c.args.limits row) remark end
    (seventeen (codes "<tr><td>") (at_right 7 (name_text row.name)) next (at_right 0 (decimal row.pulses)) next
    (at_right 0 (tenths_or_dash row.speed)) next (at_right 0 (tenths_or_dash row.share)) next
    (at_right 0 (extent_text row.breaks)) next (at_right 0 (extent_text row.makes)) next
    (at_right 0 (decimal row.pause)) next (remark_cell c.args.limits row.remark) (codes "</td></tr>\n"))
