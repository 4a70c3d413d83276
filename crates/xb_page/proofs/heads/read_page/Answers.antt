use Rattle.std.proofs.Common.{◌≡◌, ◌∙◌, ℕ, List, sym, ap, arith, rules, take}
use Rattle.std.specs.Prelude.{Err, Ok, Result}
use Rattle.xb_page.specs.declared.fault.PageFault.{PageFault}
use Rattle.xb_page.specs.declared.fault.PageFault.TheVariants as fault
use Rattle.xb_page.specs.PageLines.{Read, read_page}
use Rattle.xb_page.specs.Sheets.{sheet_with}
use Rattle.xb_page.proofs.SheetSteps.{after_fails, after_goes, ends, goes_on, line_within, no_line, not_totals, text, wrong_totals}
use Rattle.xb_page.proofs.heads.read_page.Goals as goal

abbrev read_ok : List ℕ → ℕ → ℕ → ℕ → Result Read PageFault
read_ok entries keyed refused line = Ok (record { sheet = sheet_with entries keyed refused; next_line = line })

pub returns-then-not-says_totals-clause-says : goal.returns-then-not-says_totals-clause-says
returns-then-not-says_totals-clause-says c =
    let l = c.loop-length in
    wrong_totals c.args.from c.args.page.now l.place l.start c.in-Some.length l.invariant.rest c.in-Some.ensures
    c.if-is_totals.ensures c.if-not-says_totals.ensures
    ∙ ap (λ (n : ℕ). Err (fault.Totals n)) (sym c.text_line.ensures)

pub returns-then-end-page-clause-says : goal.returns-then-end-page-clause-says
returns-then-end-page-clause-says c =
    let l = c.loop-length in
    goes_on c.args.from c.args.page.now l.place l.start c.in-Some.length l.invariant.rest c.in-Some.ensures
    c.if-is_totals.ensures c.if-not-says_totals.ensures c.if-end-page.true
    ∙ ap (λ (n : ℕ). Err (fault.GoesOn n)) (sym c.text_line-then-end-page.ensures)

pub returns-then-is_totals-clause-says : goal.returns-then-is_totals-clause-says
returns-then-is_totals-clause-says c =
    let l = c.loop-length in
    ends c.args.from c.args.page.now l.place l.start c.in-Some.length l.invariant.rest c.in-Some.ensures
    c.if-is_totals.ensures c.if-not-says_totals.ensures c.if-end-page.false
    ∙ ap (λ (line : ℕ). read_ok (take l.start c.args.page.now) l.place.keyed l.place.refused line) (sym c.line_after-next_line.ensures.line)

pub returns-in_err-place-clause-says : goal.returns-in_err-place-clause-says
returns-in_err-place-clause-says c =
    let l = c.loop-length in
    let d : PageFault = c.in_err-place.field-0.0 in
    let page = c.args.page.now in
    let line : List ℕ = text c.args.from page l.place l.start c.in-Some.length l.invariant.rest c.in-Some.ensures in
    let fails : read_page c.args.from page ≡ Err d
    = not_totals c.args.from page l.place l.start c.in-Some.length l.invariant.rest c.in-Some.ensures c.if-is_totals.ensures
    ∙ after_fails d l.place line _ c.in_err-place.ensures.place in
    search rules

pub loop-length-preserved : goal.loop-length-preserved
loop-length-preserved c =
    let l = c.loop-length in
    let page = c.args.page.now in
    let n = c.in-Some.length in
    let line : List ℕ = text c.args.from page l.place l.start n l.invariant.rest c.in-Some.ensures in
    record {
      within = line_within c.args.from page l.place l.start n l.invariant.rest c.in-Some.ensures;
      few = omega (arith, c.in_ok-place.ensures.lines, l.invariant.few);
      entries = omega (arith, c.in_ok-place.ensures.lines, c.in_ok-place.ensures.entries, l.invariant.entries);
      most = omega (arith, c.in_ok-place.ensures.line);
      some = λ h. c.in_ok-place.ensures.line;
      rest =
          not_totals c.args.from page l.place l.start n l.invariant.rest c.in-Some.ensures c.if-is_totals.ensures
          ∙ after_goes c.in_ok-place.place l.place line _ c.in_ok-place.ensures.place;
    }

pub returns-clause-says : goal.returns-clause-says
returns-clause-says c =
    let l = c.loop-length in
    no_line c.args.from c.args.page.now l.place l.start l.invariant.rest c.in_default.ensures
    ∙ ap (λ (n : ℕ). Err (fault.NoTotals n)) (sym c.text_line-2.ensures)
