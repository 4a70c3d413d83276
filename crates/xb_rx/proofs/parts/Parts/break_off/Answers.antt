use Rattle.std.proofs.Common.{◌∙◌, string_bytes, sym}
use Rattle.xb_rx.specs.Shown.{shown}
use Rattle.xb_rx.proofs.PartSteps.{kept-shows, loosened-shows}
use Rattle.xb_rx.proofs.parts.Parts.break_off.Goals as goal

pub returns-in_ok-loosen-clause-text : goal.returns-in_ok-loosen-clause-text
returns-in_ok-loosen-clause-text c =
    loosened-shows c.keep.result (shown c.args.self.now) (shown c.loosen.new.self) (shown c.keep.new.self) c.args.key
    (string_bytes c.args.out.now) (string_bytes c.loosen.new.out) (sym c.is_kp.ensures ∙ c.if-is_kp.true)
    c.in_ok-loosen.ensures.text c.keep.ensures.kept

pub returns-in_ok-keep-clause-text : goal.returns-in_ok-keep-clause-text
returns-in_ok-keep-clause-text c =
    kept-shows c.loosen-else-is_kp.result (shown c.args.self.now) (shown c.keep-else-is_kp.new.self)
    (shown c.loosen-else-is_kp.new.self) c.args.key (string_bytes c.args.out.now)
    (string_bytes c.loosen-else-is_kp.new.out) (sym c.is_kp.ensures ∙ c.if-is_kp.false)
    c.in_ok-keep.ensures.kept c.loosen-else-is_kp.ensures.text
