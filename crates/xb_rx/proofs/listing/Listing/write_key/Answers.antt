use Rattle.std.proofs.Common.{◌≡◌, ◌∙◌, ap, sym}
use Rattle.std.proofs.lemmas.Result.{err_from_is_err_and}
use Rattle.xb_measured.specs.Figures.{figures_of}
use Rattle.xb_measured.specs.Lines.{text_line}
use Rattle.xb_rx.specs.declared.page.PageFault.TheVariants as page_fault
use Rattle.xb_rx.specs.Reports.{listing_rest}
use Rattle.xb_rx.proofs.Listings.{began-key, no-key, wrote-key}
use Rattle.xb_rx.proofs.WrittenText.{wrote-whole}
use Rattle.xb_rx.proofs.listing.Listing.write_key.Goals as goal

pub returns-in_err-line : goal.returns-in_err-line
returns-in_err-line g c =
    let p = err_from_is_err_and c.from_residual.result c.from_residual.ensures.1 in
    no-key _ _ c.from_residual.result _ _ p.1

pub returns-then-is_err : goal.returns-then-is_err
returns-then-is_err g c =
    let listing = c.args.self.now in
    let text : c.as_bytes.result.now ≡ text_line (figures_of listing.last c.args.key) =
    c.as_bytes.ensures.value ∙ c.in_ok-line.ensures ∙ ap text_line c.figures_of-figures.ensures in
    began-key listing.last c.args.key _ _ _ text (listing_rest listing) page_fault.Write
    c.write_whole.ensures.beginning

pub returns : goal.returns
returns g c =
    let listing = c.args.self.now in
    let text : c.as_bytes.result.now ≡ text_line (figures_of listing.last c.args.key) =
    c.as_bytes.ensures.value ∙ c.in_ok-line.ensures ∙ ap text_line c.figures_of-figures.ensures in
    wrote-key listing.last c.args.key _ _ _ text
    (wrote-whole c.write_whole.result c.write_whole.ensures.whole (sym c.is_err.ensures.value ∙ c.if-is_err.false))
