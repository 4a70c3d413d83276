use Rattle.std.proofs.Common.{◌≡◌, ◌∙◌, ap, sym, Err, false}
use Rattle.std.specs.Prelude.{option_copied}
use Rattle.xb_page.specs.declared.fault.PageFault.TheVariants as fault
use Rattle.xb_page.specs.ReadPages.{is_cut}
use Rattle.xb_page.specs.Places.{line_feed, space}
use Rattle.xb_text.specs.Pieces.{pieces, pieces_left}
use Rattle.xb_page.proofs.ReadSteps.{end-goes_on, is_cut-pieces}
use Rattle.xb_page.proofs.reading.end.Goals as goal

pub returns-in-Some-clause-fault : goal.returns-in-Some-clause-fault
returns-in-Some-clause-fault c =
    let left = pieces_left line_feed (option_copied c.args.left) in
    let some : is_cut left ≡ false =
    ap (λ o. is_cut (pieces_left line_feed (option_copied o))) c.in-Some.is ∙ is_cut-pieces c.in-Some.field-0.now in
    end-goes_on c.args.place.now (pieces space c.args.totals.now) left
    (sym c.if-not-says_totals.ensures) (sym c.if-is_end.ensures) some
    ∙ ap (λ n. Err (fault.GoesOn n)) (sym c.text_line-n.ensures)
