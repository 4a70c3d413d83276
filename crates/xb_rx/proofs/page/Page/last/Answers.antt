use Rattle.std.proofs.Common.{string_bytes}
use Rattle.xb_rx.specs.Pages.{paged}
use Rattle.xb_rx.proofs.WrittenText.{if-ok, last-none}
use Rattle.xb_rx.proofs.page.Page.last.Goals as goal

pub returns-in-None : goal.returns-in-None
returns-in-None c =
    if-ok c.totals.result
    (λ text wrote. last-none (paged c.args.self.now) (string_bytes text) c.in-None.is wrote) c.totals.ensures
