use Rattle.std.proofs.Common.{◌≡◌, ◌∙◌, Err, Ok, Result, ap, rules, sym}
use Rattle.std.specs.Prelude.{option_copied}
use Rattle.xb_page.specs.Places.{next_place, place_after, space, text_line, written}
use Rattle.xb_page.specs.ReadPages.{entry_and, entry_of_head}
use Rattle.xb_page.specs.declared.fault.PageFault.{PageFault}
use Rattle.xb_page.specs.declared.page_place.PagePlace.{PagePlace}
use Rattle.xb_text.specs.Pieces.{pieces_left}
use Rattle.xb_page.proofs.CheckedEntries.{place-by_rest, unit_and}
use Rattle.xb_page.proofs.checking.after_rest.Goals as goal

pub returns-clause-place : goal.returns-clause-place
returns-clause-place c =
    let head = c.args.head in
    let next : PagePlace = next_place c.args.place.now head.line head.number head.refused in
    ap (λ (p : PagePlace). Ok p) c.after.ensures
    ∙ sym (ap (λ (r : Result (Unit {0}) PageFault). unit_and r (Ok next)) c.in_ok-check_rest.was)
    ∙ place-by_rest c.args.place.now c.text_line.result head.line head.number head.refused
    (pieces_left space (option_copied head.rest)) c.check_rest.result c.text_line.ensures c.check_rest.ensures

pub returns-in_err-check_rest-clause-place : goal.returns-in_err-check_rest-clause-place
returns-in_err-check_rest-clause-place c =
    let head = c.args.head in
    let next : PagePlace = next_place c.args.place.now head.line head.number head.refused in
    let f : PageFault = c.in_err-check_rest.field-0.0 in
    let fails : Err f ≡ entry_and (entry_of_head (text_line c.args.place.now) (written head)) (λ e. Ok (place_after c.args.place.now e))
    = sym (ap (λ (r : Result (Unit {0}) PageFault). unit_and r (Ok next)) c.in_err-check_rest.was)
    ∙ place-by_rest c.args.place.now c.text_line.result head.line head.number head.refused
    (pieces_left space (option_copied head.rest)) c.check_rest.result c.text_line.ensures c.check_rest.ensures in
    search rules
