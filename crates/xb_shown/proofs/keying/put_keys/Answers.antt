use Rattle.std.proofs.Common.{◌≡◌, ◌∙◌, ◌+◌, ◌++◌, ℕ, List, None, Some, ap, ap₂, arith, drop, sym}
use Rattle.xb_measured.specs.declared.heard.Heard.{Heard}
use Rattle.xb_measured.specs.declared.figures.Figures.{Figures}
use Rattle.xb_measured.specs.Figures.{figures_of}
use Rattle.xb_svg.specs.Drawings.{says}
use Rattle.xb_shown.specs.Keyings.{from_of, key_words, keys_words, row_from}
use Rattle.xb_shown.proofs.Sequences.{none-said, one-said}
use Rattle.xb_shown.proofs.keying.put_keys.Goals as goal

pub loop-key-preserved : goal.loop-key-preserved
loop-key-preserved c =
    let i = c.loop-key.key-index in
    let keys : List Heard = c.args.keys.now in
    let key : Heard = c.key-item.result in
    let before = c.loop-key.last_key in
    let from = from_of c.loop-key.last_row in
    let so_far : List (List ℕ) = says c.loop-key.out.items in
    let now : List (List ℕ) = says c.put_key.new.out.items in
    let these : Figures = figures_of before key in
    let rest = λ (h : Heard) (r : ℕ). keys_words (Some h) (Some r) (drop (i + 1) keys) in
    let heard : c.heard-heard.result ≡ key = c.heard-heard.ensures in
    let figures : c.figures_of-figures.result ≡ these =
    c.figures_of-figures.ensures ∙ ap (λ (h : Heard). figures_of before h) heard in
    let row : c.row_for-row.result.from ≡ row_from from these =
    c.row_for-row.ensures ∙ ap (λ (f : Figures). row_from from f) figures in
    let words : now ≡ so_far ++ key_words (row_from from these) these =
    c.in_ok-put_key.ensures ∙ ap₂ (λ (r : ℕ) (f : Figures). so_far ++ key_words r f) row figures in
    ap₂ (λ (h : Heard) (r : ℕ). now ++ rest h r) heard row
    ∙ ap (λ (t : List (List ℕ)). t ++ rest key (row_from from these)) words
    ∙ one-said i before from keys key so_far (says c.args.out.now.items ++ keys_words c.args.before None keys)
    c.loop-key-test.true (sym c.key-item.is) c.loop-key.invariant

pub returns : goal.returns
returns c =
    none-said c.loop-key.key-index c.loop-key.last_key (from_of c.loop-key.last_row) c.args.keys.now
    (says c.loop-key.out.items) (says c.args.out.now.items ++ keys_words c.args.before None c.args.keys.now)
    (omega (arith, c.loop-key-test.false)) c.loop-key.invariant
