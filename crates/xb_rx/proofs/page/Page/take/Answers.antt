use Rattle.std.proofs.Common.{◌∙◌, ◌++◌, Option, Some, ap, sym, subst}
use Rattle.xb_measured.specs.declared.heard.Heard.{Heard}
use Rattle.xb_measured.specs.Receivers.{listed}
use Rattle.xb_rx.specs.Pages.{Writes, page_told, page_rest, paged}
use Rattle.xb_rx.proofs.page.Page.take.Goals as goal

pub returns-in-Some-clause-page : goal.returns-in-Some-clause-page
returns-in-Some-clause-page g c =
    subst (λ (k : Option Heard). Writes (λ later. page_rest (paged c.args.self.now) (listed k ++ later))
    (page_rest (paged c.take_key.new.self)) c.take_key.result (g.W.Write.contents c.args.out.now) (g.W.Write.contents c.take_key.new.out))
    (ap (λ k. Some k) c.of.ensures ∙ sym c.in-Some.is) c.take_key.ensures.page

pub returns-in-Some-clause-told : goal.returns-in-Some-clause-told
returns-in-Some-clause-told g c =
    subst (λ (k : Option Heard). Writes (λ later. page_told (paged c.args.self.now) (listed k ++ later))
    (page_told (paged c.take_key.new.self)) c.take_key.result (g.E.Write.contents c.args.err.now) (g.E.Write.contents c.take_key.new.err))
    (ap (λ k. Some k) c.of.ensures ∙ sym c.in-Some.is) c.take_key.ensures.told
