use Rattle.std.proofs.Common.{◌≡◌, ◌∙◌, ℕ, List, ap, sym, subst}
use Rattle.std.specs.Prelude.{Result}
use Rattle.std.proofs.lemmas.Result.{err_from_is_err_and}
use Rattle.xb_rows.specs.RowTexts.{fault_of_text, rows_of_text}
use Rattle.xb_deck.specs.Contents.{with_rows}
use Rattle.xb_office.specs.declared.fault.OfficeFault.{OfficeFault}
use Rattle.xb_office.specs.DeckPage.{IsFaultOfDeck, page_of_contents, says}
use Rattle.xb_office.proofs.office.page_of_deck.Goals as goal

pub returns-in_err-tapes-clause-fault : goal.returns-in_err-tapes-clause-fault
returns-in_err-tapes-clause-fault g c =
    let text = c.in_ok-deck.deck.rows.now in
    let is : says c.args.bytes.now
    ≡ page_of_contents (with_rows c.in_ok-table.table (rows_of_text text) (fault_of_text text))
    = ap page_of_contents (c.in_ok-deck.ensures.parts ∙ c.in_ok-table.ensures.table) in
    let returned = c.from_residual-in_err-tapes in
    let p = err_from_is_err_and returned.result returned.ensures.1 in
    let fault = c.in_err-tapes.ensures.fault in
    let of_deck = subst (λ (said : Result (List ℕ) OfficeFault). IsFaultOfDeck said c.in_err-tapes.field-0.0)
    (sym is) fault in
    rw (p.1, p.2) of_deck
