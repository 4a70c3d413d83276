use Rattle.std.proofs.Common.{◌≡◌, ◌∷◌, ◌∙◌, Some, None, ap, sym, rules, true, false}
use Rattle.std.specs.Prelude.{bytes_eq, option_copied}
use Rattle.xb_text.specs.Pieces.{pieces, pieces_left}
use Rattle.xb_csv.specs.Cells.{cell_number, trimmed}
use Rattle.xb_csv.proofs.CellLemmas.{found_here, found_later, found_none, found_past}
use Rattle.xb_csv.proofs.cells.cell_of.Goals as goal

pub loop-number-init : goal.loop-number-init
unfolding cell_number
loop-number-init c = search rules

pub returns-then-eq : goal.returns-then-eq
returns-then-eq c =
    let cell = c.first_piece.result.0.now in
    let text = c.args.text.now in
    let same : bytes_eq (trimmed cell) text ≡ true =
    ap (λ t. bytes_eq t text) (sym c.trimmed.ensures) ∙ sym c.eq.ensures ∙ c.if-eq.true in
    sym (found_here c.loop-number.rest.now text cell (option_copied c.first_piece.result.1) 65535 c.loop-number.number
    c.loop-number-test.true c.first_piece.ensures same)
    ∙ c.loop-number.invariant

pub returns-in-None : goal.returns-in-None
returns-in-None c =
    let cell = c.first_piece.result.0.now in
    let text = c.args.text.now in
    let other : bytes_eq (trimmed cell) text ≡ false =
    ap (λ t. bytes_eq t text) (sym c.trimmed.ensures) ∙ sym c.eq.ensures ∙ c.if-eq.false in
    let last : pieces 44 c.loop-number.rest.now ≡ cell ∷ pieces_left 44 None =
    c.first_piece.ensures ∙ ap (λ later. cell ∷ pieces_left 44 (option_copied later)) c.in-None.is in
    sym (found_none c.loop-number.rest.now text cell 65535 c.loop-number.number
    c.loop-number-test.true last other)
    ∙ c.loop-number.invariant

pub loop-number-preserved : goal.loop-number-preserved
loop-number-preserved c =
    let cell = c.first_piece.result.0.now in
    let text = c.args.text.now in
    let later = c.in-Some.later.now in
    let other : bytes_eq (trimmed cell) text ≡ false =
    ap (λ t. bytes_eq t text) (sym c.trimmed.ensures) ∙ sym c.eq.ensures ∙ c.if-eq.false in
    let more : pieces 44 c.loop-number.rest.now ≡ cell ∷ pieces_left 44 (Some later) =
    c.first_piece.ensures ∙ ap (λ rest. cell ∷ pieces_left 44 (option_copied rest)) c.in-Some.is in
    sym (found_later c.loop-number.rest.now text cell later 65535 c.loop-number.number
    c.loop-number-test.true more other)
    ∙ c.loop-number.invariant

pub returns : goal.returns
returns c =
    sym (found_past c.loop-number.rest.now c.args.text.now 65535 c.loop-number.number c.loop-number-test.false)
    ∙ c.loop-number.invariant
