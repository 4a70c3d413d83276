use Rattle.std.proofs.Common.{◌≡◌, ◌∷◌, ◌∙◌, Some, None, ap, sym, rules}
use Rattle.std.specs.Prelude.{option_copied}
use Rattle.xb_text.specs.Pieces.{pieces, pieces_left}
use Rattle.xb_csv.specs.Cells.{stands_after}
use Rattle.xb_csv.proofs.CellLemmas.{after_here, after_later, after_none, after_past}
use Rattle.xb_csv.proofs.cells.stands_after.Goals as goal

pub loop-step-init : goal.loop-step-init
unfolding stands_after
loop-step-init c = search rules

pub returns-then-is_later : goal.returns-then-is_later
returns-then-is_later c =
    sym (after_here c.loop-step.rest.now c.args.text.now c.first_piece.result.0.now (option_copied c.first_piece.result.1)
    65535 c.loop-step.step c.args.number c.loop-step-test.true c.first_piece.ensures
    (sym c.is_later.ensures ∙ c.if-is_later.true))
    ∙ c.loop-step.invariant

pub returns-in-None : goal.returns-in-None
returns-in-None c =
    let cell = c.first_piece.result.0.now in
    let last : pieces 44 c.loop-step.rest.now ≡ cell ∷ pieces_left 44 None =
    c.first_piece.ensures ∙ ap (λ later. cell ∷ pieces_left 44 (option_copied later)) c.in-None.is in
    sym (after_none c.loop-step.rest.now c.args.text.now cell 65535 c.loop-step.step c.args.number c.loop-step-test.true last
    (sym c.is_later.ensures ∙ c.if-is_later.false))
    ∙ c.loop-step.invariant

pub loop-step-preserved : goal.loop-step-preserved
loop-step-preserved c =
    let cell = c.first_piece.result.0.now in
    let later = c.in-Some.later.now in
    let more : pieces 44 c.loop-step.rest.now ≡ cell ∷ pieces_left 44 (Some later) =
    c.first_piece.ensures ∙ ap (λ rest. cell ∷ pieces_left 44 (option_copied rest)) c.in-Some.is in
    sym (after_later c.loop-step.rest.now c.args.text.now cell later 65535 c.loop-step.step c.args.number
    c.loop-step-test.true more (sym c.is_later.ensures ∙ c.if-is_later.false))
    ∙ c.loop-step.invariant

pub returns : goal.returns
returns c =
    sym (after_past c.loop-step.rest.now c.args.text.now 65535 c.loop-step.step c.args.number c.loop-step-test.false)
    ∙ c.loop-step.invariant
