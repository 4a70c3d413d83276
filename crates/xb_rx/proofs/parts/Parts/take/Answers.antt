use Rattle.std.proofs.Common.{Ok, Option, subst, sym}
use Rattle.xb_measured.specs.declared.heard.Heard.{Heard}
use Rattle.xb_measured.specs.Receivers.{listed}
use Rattle.xb_rx.specs.declared.page.PageFault.{PageFault}
use Rattle.xb_rx.specs.Shown.{parts_rest, shown}
use Rattle.xb_rx.specs.Styled.{WritesBy}
use Rattle.xb_rx.proofs.Listings.{no-part}
use Rattle.xb_rx.proofs.parts.Parts.take.Goals as goal

pub returns-in-Some-clause-text : goal.returns-in-Some-clause-text
returns-in-Some-clause-text g c =
    subst (λ (k : Option Heard). WritesBy (parts_rest (shown c.args.self.now)) (listed k) (parts_rest (shown c.take_key.new.self))
    c.take_key.result (g.W.Write.contents c.args.out.now) (g.W.Write.contents c.take_key.new.out))
    (sym c.in-Some.is) c.take_key.ensures.text

pub returns-in-None-clause-text : goal.returns-in-None-clause-text
returns-in-None-clause-text g c =
    subst (λ (k : Option Heard). WritesBy {F = PageFault} (parts_rest (shown c.args.self.now)) (listed k)
    (parts_rest (shown c.args.self.now)) (Ok tt) (g.W.Write.contents c.args.out.now) (g.W.Write.contents c.args.out.now))
    (sym c.in-None.is) (no-part PageFault (parts_rest (shown c.args.self.now)) (g.W.Write.contents c.args.out.now))
