use Rattle.std.proofs.Common.{codes, decimal, string_bytes}
use Rattle.xb_report.specs.Cells.{at_right, extent_text, gap, tenths_or_dash}
use Rattle.xb_report.specs.ReportTexts.{digit_text, name_text, remark_text}
use Rattle.xb_report.proofs.Joined.{seven_cells}
use Rattle.xb_report.proofs.Pushed.{both, last, str}
use Rattle.xb_report.proofs.digit.push_digit.Goals as goal

pub returns : goal.returns
returns c =
    let o = string_bytes c.args.out.now in
    let row = c.args.row in
    let name = both o _ _ _ _ c.in_ok-push_str.ensures.bytes c.in_ok-push_name.ensures in
    let g1 = both o _ _ _ _ name c.in_ok-push_str-2.ensures.bytes in
    let number = both o _ _ _ _ g1 c.in_ok-push_number.ensures in
    let g2 = both o _ _ _ _ number c.in_ok-push_str-3.ensures.bytes in
    let speed = both o _ _ _ _ g2 c.in_ok-push_tenths.ensures in
    let g3 = both o _ _ _ _ speed c.in_ok-push_str-4.ensures.bytes in
    let share = both o _ _ _ _ g3 c.in_ok-push_tenths-2.ensures in
    let g4 = both o _ _ _ _ share c.in_ok-push_str-5.ensures.bytes in
    let breaks = both o _ _ _ _ g4 c.in_ok-push_extent.ensures in
    let g5 = both o _ _ _ _ breaks c.in_ok-push_str-6.ensures.bytes in
    let makes = both o _ _ _ _ g5 c.in_ok-push_extent-2.ensures in
    let g6 = both o _ _ _ _ makes c.in_ok-push_str-7.ensures.bytes in
    let pause = both o _ _ _ _ g6 c.in_ok-push_number-2.ensures in
    let remark = both o _ _ _ _ pause c.in_ok-push_remark.ensures in
    let end = str c.push_str-8.result _ _ (codes "\n") c.push_str-8.ensures.bytes in
    last c.push_str-8.result o _ _ _ _ (digit_text c.args.limits row) remark end
    (seven_cells gap (at_right 5 (name_text row.name)) (at_right 6 (decimal row.pulses))
    (at_right 5 (tenths_or_dash row.speed)) (at_right 7 (tenths_or_dash row.share)) (at_right 8 (extent_text row.breaks))
    (at_right 8 (extent_text row.makes)) (at_right 8 (decimal row.pause)) (remark_text c.args.limits row.remark)
    (codes "\n"))
