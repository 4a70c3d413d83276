use Rattle.std.proofs.Common.{◌≡◌, ◌∙◌, [], ◌∷◌, length, ap, sym, inr, arith, rules, Err}
use Rattle.std.specs.Prelude.{option_copied}
use Rattle.xb_page.specs.declared.fault.PageFault.TheVariants as fault
use Rattle.xb_page.specs.ReadPages.{IsFaultOf, after, entries_from, entries_of_page, first_place, is_end}
use Rattle.xb_page.specs.Places.{line_feed, text_line}
use Rattle.xb_text.specs.Pieces.{pieces, pieces_left}
use Rattle.xb_page.specs.declared.page_place.PagePlace.{PagePlace}
use Rattle.xb_page.proofs.ReadSteps.{after-none, few-lines, has-line, line-early, line-fault, line-last, line-more, line-none, lines-end}
use Rattle.xb_page.proofs.reading.page_entries.Goals as goal

pub loop-left-init : goal.loop-left-init
loop-left-init c =
    let all = entries_of_page c.args.page.now in
    let few = few-lines c.args.page.now in
    let first : c.start-place.result ≡ first_place = c.start-place.ensures in
    record {
      entries = after-none all ∙ ap (λ place. after [] (entries_from place (pieces line_feed c.args.page.now))) (sym first)
          ∙ sym (ap (λ entries. after entries (entries_from c.start-place.result (pieces line_feed c.args.page.now))) c.new-entries.ensures.items);
      lines = omega (arith, few, ap text_line first);
      numbers = omega (arith, ap text_line first, ap (λ (p : PagePlace). p.entries) first);
    }

pub returns-then-is_end-clause-fault : goal.returns-then-is_end-clause-fault
returns-then-is_end-clause-fault c =
    inr (lines-end (entries_of_page c.args.page.now) c.loop-left.place (pieces_left line_feed (option_copied c.loop-left.left))
    c.loop-left.entries.items c.loop-left.invariant.entries
    (ap (λ o. is_end (pieces_left line_feed (option_copied o))) c.in-Some.is ∙ sym c.if-is_end.ensures)
    ∙ ap (λ n. Err (fault.NoTotals n)) (sym c.text_line.ensures))

pub returns-in_err-end-clause-fault : goal.returns-in_err-end-clause-fault
returns-in_err-end-clause-fault c =
    let has = has-line (entries_of_page c.args.page.now) c.loop-left.place c.loop-left.entries.items c.loop-left.left
    c.in-Some.text c.first_piece.result.0.now (pieces_left line_feed (option_copied c.first_piece.result.1))
    c.loop-left.invariant.entries c.in-Some.is c.first_piece.ensures c.if-is_end.ensures in
    let wrong : IsFaultOf (entries_of_page c.args.page.now) c.in_err-end.field-0.0 =
    inr (line-early _ _ _ _ _ c.in_err-end.field-0.0 has (sym c.if-is_totals.ensures) c.in_err-end.ensures.fault) in
    search rules

pub returns-then-is_totals-clause-entries : goal.returns-then-is_totals-clause-entries
returns-then-is_totals-clause-entries c =
    let has = has-line (entries_of_page c.args.page.now) c.loop-left.place c.loop-left.entries.items c.loop-left.left
    c.in-Some.text c.first_piece.result.0.now (pieces_left line_feed (option_copied c.first_piece.result.1))
    c.loop-left.invariant.entries c.in-Some.is c.first_piece.ensures c.if-is_end.ensures in
    line-last _ _ _ _ _ has (sym c.if-is_totals.ensures) c.in_ok-end.ensures.end

pub returns-in_err-place-clause-fault : goal.returns-in_err-place-clause-fault
returns-in_err-place-clause-fault c =
    let has = has-line (entries_of_page c.args.page.now) c.loop-left.place c.loop-left.entries.items c.loop-left.left
    c.in-Some.text c.first_piece.result.0.now (pieces_left line_feed (option_copied c.first_piece.result.1))
    c.loop-left.invariant.entries c.in-Some.is c.first_piece.ensures c.if-is_end.ensures in
    let wrong : IsFaultOf (entries_of_page c.args.page.now) c.in_err-place.field-0.0 =
    line-fault _ _ _ _ _ c.in_err-place.field-0.0 has (sym c.if-is_totals.ensures) c.in_err-place.ensures.fault in
    search rules

pub loop-left-preserved : goal.loop-left-preserved
loop-left-preserved c =
    let has = has-line (entries_of_page c.args.page.now) c.loop-left.place c.loop-left.entries.items c.loop-left.left
    c.in-Some.text c.first_piece.result.0.now (pieces_left line_feed (option_copied c.first_piece.result.1))
    c.loop-left.invariant.entries c.in-Some.is c.first_piece.ensures c.if-is_end.ensures in
    let lines : pieces_left line_feed (option_copied c.loop-left.left)
    ≡ c.first_piece.result.0.now ∷ pieces_left line_feed (option_copied c.first_piece.result.1) =
    ap (λ o. pieces_left line_feed (option_copied o)) c.in-Some.is ∙ c.first_piece.ensures in
    record {
      entries = line-more _ _ c.in_ok-place.place _ _ _ c.take_line.new.entries.items has (sym c.if-is_totals.ensures)
          c.in_ok-place.ensures.taken;
      lines = omega (arith, c.loop-left.invariant.lines, c.in_ok-place.ensures.lines, ap length lines);
      numbers = omega (arith, c.loop-left.invariant.numbers, c.in_ok-place.ensures.lines, c.in_ok-place.ensures.entries);
    }

pub returns-clause-fault : goal.returns-clause-fault
returns-clause-fault c =
    inr (line-none (entries_of_page c.args.page.now) c.loop-left.place c.loop-left.entries.items
    (c.loop-left.invariant.entries
    ∙ ap (λ left. after c.loop-left.entries.items (entries_from c.loop-left.place (pieces_left line_feed (option_copied left))))
    c.in_default.is)
    ∙ ap (λ n. Err (fault.NoTotals n)) (sym c.text_line-2.ensures))
