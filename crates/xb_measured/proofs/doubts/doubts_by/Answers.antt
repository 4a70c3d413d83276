use Rattle.std.proofs.Common.{◌≡◌, ◌∙◌, ◌+◌, ◌++◌, List, Some, None, ap, arith, drop, sym}
use Rattle.xb_measured.specs.declared.heard.Heard.{Heard}
use Rattle.xb_measured.specs.declared.figures.Figures.{Figures}
use Rattle.xb_measured.specs.declared.rhythm.Rhythm.{Rhythm}
use Rattle.xb_measured.specs.Figures.{figures_of}
use Rattle.xb_measured.specs.declared.doubts.Doubt.{Doubt}
use Rattle.xb_measured.specs.Doubts.{doubts_after, gap_doubts, length_doubts}
use Rattle.xb_measured.proofs.DoubtTexts.{none-left, one-more}
use Rattle.xb_measured.proofs.doubts.doubts_by.Goals as goal

pub loop-index-preserved : goal.loop-index-preserved
loop-index-preserved c =
    let i = c.loop-index.index in
    let rhythm : Rhythm = c.args.rhythm in
    let keys : List Heard = c.args.keys.now in
    let key : Heard = c.index-keys-index.result in
    let before = c.loop-index.before in
    let so_far : List Doubt = c.loop-index.doubts.items in
    let heard : c.heard-heard.result ≡ key = c.heard-heard.ensures in
    let figures : c.figures_of-figures.result ≡ figures_of before key =
    c.figures_of-figures.ensures ∙ ap (λ (h : Heard). figures_of before h) heard in
    let gap : c.push_doubt.new.doubts.items ≡ so_far ++ gap_doubts rhythm (i + 1) (figures_of before key).gap_ms =
    c.in_ok-push_doubt.ensures
    ∙ ap (λ ds. so_far ++ ds) (c.gap_doubt.ensures ∙ ap (λ (f : Figures). gap_doubts rhythm (i + 1) f.gap_ms) figures) in
    let long : c.push_doubt-in-loop-index.new.doubts.items
    ≡ c.push_doubt.new.doubts.items ++ length_doubts rhythm (i + 1) (figures_of before key) =
    c.in_ok-push_doubt-2.ensures
    ∙ ap (λ ds. c.push_doubt.new.doubts.items ++ ds)
    (c.length_doubt.ensures ∙ ap (λ (f : Figures). length_doubts rhythm (i + 1) f) figures) in
    ap (λ ds. ds ++ doubts_after rhythm (i + 1) (Some c.heard-heard.result) (drop (i + 1) keys))
    (long ∙ ap (λ ds. ds ++ length_doubts rhythm (i + 1) (figures_of before key)) gap)
    ∙ ap (λ (h : Heard). ((so_far ++ gap_doubts rhythm (i + 1) (figures_of before key).gap_ms)
    ++ length_doubts rhythm (i + 1) (figures_of before key)) ++ doubts_after rhythm (i + 1) (Some h) (drop (i + 1) keys)) heard
    ∙ one-more rhythm i before keys key so_far (doubts_after rhythm 0 None keys) (omega arith) (sym c.index-keys-index.is)
    c.loop-index.invariant

pub returns : goal.returns
returns c =
    none-left c.args.rhythm c.loop-index.index c.loop-index.before c.args.keys.now c.loop-index.doubts.items
    (doubts_after c.args.rhythm 0 None c.args.keys.now) (omega arith) c.loop-index.invariant
