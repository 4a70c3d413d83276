use Rattle.std.proofs.Common.{◌≡◌, ◌++◌, ◌∙◌, ap, codes, refl, string_bytes}
use Rattle.xb_report.specs.Cells.{at_right}
use Rattle.xb_report.proofs.Pushed.{both, last, str}
use Rattle.xb_turns.specs.Figures.{speed_of}
use Rattle.xb_bench.specs.Texts.{digit_text, verdict_text}
use Rattle.xb_turns.specs.Verdicts.{verdict_of, word_of}
use Rattle.xb_bench.proofs.text.push_digit.Goals as goal

pub returns : goal.returns
returns c =
    let o = string_bytes c.args.out.now in
    let windows = c.args.setting.windows in
    let pulses = c.args.train.now.pulses in
    let word : c.word_of.result.now ≡ verdict_text c.args.setting c.args.scale c.args.train.now =
    c.word_of.ensures
    ∙ ap word_of
    (c.verdict_of-verdict.ensures
    ∙ ap (λ speed. verdict_of windows pulses speed c.share_of.result) c.speed_of.ensures
    ∙ ap (verdict_of windows pulses (speed_of c.args.scale c.args.train.now)) c.share_of.ensures) in
    let g1 = both o _ _ _ _ c.in_ok-push_line.ensures c.in_ok-push_str.ensures.bytes in
    let name = both o _ _ _ _ g1 c.in_ok-push_name.ensures in
    let figures = both o _ _ _ _ name c.in_ok-push_figures.ensures in
    let times = both o _ _ _ _ figures c.in_ok-push_times.ensures in
    let g2 = both o _ _ _ _ times c.in_ok-push_str-2.ensures.bytes in
    let verdict = both o _ _ _ _ g2
    (c.in_ok-push_right.ensures ∙ ap (λ w. string_bytes c.push_str-2.new.self ++ at_right 7 w) word) in
    let wrong = both o _ _ _ _ verdict c.in_ok-push_wrong.ensures in
    let end = str c.push_str-3.result _ _ (codes "\n") c.push_str-3.ensures.bytes in
    last c.push_str-3.result o _ _ _ _
    (digit_text c.args.setting c.args.line c.args.scale c.args.ended c.args.train.now c.args.bounce) wrong end refl
