use Rattle.std.proofs.Common.{◌≡◌, ◌∙◌, ◌+◌, ◌++◌, ℕ, List, Some, ap, arith, drop, string_bytes, sym}
use Rattle.xb_measured.specs.declared.heard.Heard.{Heard}
use Rattle.xb_measured.specs.declared.figures.Figures.{Figures}
use Rattle.xb_measured.specs.Figures.{figures_of}
use Rattle.xb_measured.specs.Lines.{text_line, text_lines}
use Rattle.xb_shown.proofs.Sequences.{no-line, one-line}
use Rattle.xb_shown.proofs.page.lines_of.Goals as goal

pub loop-key-preserved : goal.loop-key-preserved
loop-key-preserved c =
    let i = c.loop-key.key-index in
    let keys : List Heard = c.args.keys.now in
    let key : Heard = c.key-item.result in
    let before = c.loop-key.last in
    let so_far : List ℕ = string_bytes c.loop-key.text in
    let heard : c.heard-heard.result ≡ key = c.heard-heard.ensures in
    let figures : c.figures_of.result ≡ figures_of before key =
    c.figures_of.ensures ∙ ap (λ (h : Heard). figures_of before h) heard in
    let line : string_bytes c.in_ok-line.line ≡ text_line (figures_of before key) =
    c.in_ok-line.ensures ∙ ap (λ (f : Figures). text_line f) figures in
    ap (λ (bytes : List ℕ). bytes ++ text_lines (Some c.heard-heard.result) (drop (i + 1) keys))
    (c.in_ok-push_str.ensures.bytes ∙ ap (λ (bytes : List ℕ). so_far ++ bytes) (c.deref.ensures ∙ line))
    ∙ ap (λ (h : Heard). (so_far ++ text_line (figures_of before key)) ++ text_lines (Some h) (drop (i + 1) keys)) heard
    ∙ one-line i before keys key so_far (text_lines c.args.before keys) c.loop-key-test.true (sym c.key-item.is)
    c.loop-key.invariant

pub returns : goal.returns
returns c =
    no-line c.loop-key.key-index c.loop-key.last c.args.keys.now (string_bytes c.loop-key.text)
    (text_lines c.args.before c.args.keys.now) (omega (arith, c.loop-key-test.false)) c.loop-key.invariant
