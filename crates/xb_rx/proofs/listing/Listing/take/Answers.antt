use Rattle.std.proofs.Common.{◌++◌, Option, sym, subst}
use Rattle.xb_measured.specs.declared.heard.Heard.{Heard}
use Rattle.xb_measured.specs.Receivers.{listed}
use Rattle.xb_rx.specs.Pages.{Writes}
use Rattle.xb_rx.specs.Reports.{listing_rest}
use Rattle.xb_rx.proofs.listing.Listing.take.Goals as goal

pub returns-in-Some : goal.returns-in-Some
returns-in-Some g c =
    subst (λ (k : Option Heard). Writes (λ later. listing_rest c.args.self.now (listed k ++ later))
    (listing_rest c.write_key.new.self) c.write_key.result (g.W.Write.contents c.args.out.now) (g.W.Write.contents c.write_key.new.out))
    (sym c.in-Some.is) c.write_key.ensures
