use Rattle.std.proofs.Common.{[], List, string_bytes, subst}
use Rattle.xb_measured.specs.declared.heard.Heard.{Heard}
use Rattle.xb_rx.specs.Shown.{Shows, loose_parts, shown}
use Rattle.xb_rx.proofs.parts.Parts.loosen.Goals as goal

pub returns-clause-text : goal.returns-clause-text
returns-clause-text c =
    let old = shown c.args.self.now in
    subst (λ (ks : List Heard). Shows old.sheet (loose_parts old.last ks) c.show_loose.new.sheet []
    (string_bytes c.args.out.now) (string_bytes c.show_loose.new.out)) c.deref.ensures.value c.in_ok-self.ensures.text
