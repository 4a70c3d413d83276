use Rattle.std.proofs.Common.{◌≡◌, ◌∙◌, ◌∷◌, length, false, ap, sym, subst, arith, Err, Ok}
use Rattle.std.specs.Prelude.{IfErr, option_copied}
use Rattle.std.proofs.lemmas.Result.{err_from_is_err_and}
use Rattle.xb_text.specs.Pieces.{pieces, pieces_left}
use Rattle.xb_tone.specs.Texts.{IsFaultOfText, ends, entries_from, entries_of_text, step}
use Rattle.xb_tone.proofs.Readings.{ends-pieces, few-lines, has-line, line-fault, line-last, line-more, lines-end}
use Rattle.xb_tone.proofs.text.entries_of_text.Goals as goal

pub loop-left-init : goal.loop-left-init
loop-left-init c = record {
  entries = ap (λ entries. entries_from 1 entries (pieces 10 c.args.text.now)) (sym c.new-entries.ensures.items);
  lines = omega (arith, few-lines c.args.text.now);
}

pub returns-in_err-take_line-clause-fault : goal.returns-in_err-take_line-clause-fault
returns-in_err-take_line-clause-fault c =
    let rest = pieces_left 10 (option_copied c.first_piece.result.1) in
    let has = has-line (entries_of_text c.args.text.now) c.loop-left.number c.loop-left.entries.items c.loop-left.left
    c.in-Some.text c.first_piece.result.0.now rest c.loop-left.invariant.entries c.in-Some.is c.first_piece.ensures
    c.if-is_empty.ensures in
    let p = err_from_is_err_and c.from_residual.result c.from_residual.ensures.1 in
    subst (λ r. IfErr r (IsFaultOfText c.args.text.now)) (sym (p.1 ∙ ap Err p.2))
    (line-fault c.args.text.now _ _ _ _ c.in_err-take_line.field-0.0 has c.in_err-take_line.ensures.fault)

pub loop-left-preserved : goal.loop-left-preserved
loop-left-preserved c =
    let rest = pieces_left 10 (option_copied c.first_piece.result.1) in
    let has = has-line (entries_of_text c.args.text.now) c.loop-left.number c.loop-left.entries.items c.loop-left.left
    c.in-Some.text c.first_piece.result.0.now rest c.loop-left.invariant.entries c.in-Some.is c.first_piece.ensures
    c.if-is_empty.ensures in
    let lines : pieces_left 10 (option_copied c.loop-left.left) ≡ c.first_piece.result.0.now ∷ rest =
    ap (λ o. pieces_left 10 (option_copied o)) c.in-Some.is ∙ c.first_piece.ensures in
    let taken : step c.loop-left.number c.loop-left.entries.items c.first_piece.result.0.now rest
    ≡ Ok (c.in_ok-take_line.field-0, c.take_line.new.entries.items) = c.in_ok-take_line.ensures.taken in
    record {
      entries =
          line-more _ _ _ _ _ c.take_line.new.entries.items has
          (taken ∙ ap (λ last. Ok (last, c.take_line.new.entries.items)) c.if-branch.false);
      lines = omega (arith, c.loop-left.invariant.lines, ap length lines);
    }

pub returns-then-is_empty-clause-fault : goal.returns-then-is_empty-clause-fault
returns-then-is_empty-clause-fault c =
    lines-end (entries_of_text c.args.text.now) c.loop-left.number (pieces_left 10 (option_copied c.loop-left.left))
    c.loop-left.entries.items c.loop-left.invariant.entries
    (ap (λ o. ends (pieces_left 10 (option_copied o))) c.in-Some.is ∙ ends-pieces c.in-Some.text.now
    ∙ sym c.if-is_empty.ensures)

pub returns-then-branch-clause-entries : goal.returns-then-branch-clause-entries
returns-then-branch-clause-entries c =
    let rest = pieces_left 10 (option_copied c.first_piece.result.1) in
    let has = has-line (entries_of_text c.args.text.now) c.loop-left.number c.loop-left.entries.items c.loop-left.left
    c.in-Some.text c.first_piece.result.0.now rest c.loop-left.invariant.entries c.in-Some.is c.first_piece.ensures
    c.if-is_empty.ensures in
    let taken : step c.loop-left.number c.loop-left.entries.items c.first_piece.result.0.now rest
    ≡ Ok (c.in_ok-take_line.field-0, c.take_line.new.entries.items) = c.in_ok-take_line.ensures.taken in
    line-last _ _ _ _ _ c.take_line.new.entries.items has
    (taken ∙ ap (λ last. Ok (last, c.take_line.new.entries.items)) c.if-branch.true)

pub returns-clause-fault : goal.returns-clause-fault
returns-clause-fault c =
    lines-end (entries_of_text c.args.text.now) c.loop-left.number (pieces_left 10 (option_copied c.loop-left.left))
    c.loop-left.entries.items c.loop-left.invariant.entries
    (ap (λ o. ends (pieces_left 10 (option_copied o))) c.in_default.is)
