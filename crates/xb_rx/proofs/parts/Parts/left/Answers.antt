use Rattle.std.proofs.Common.{string_bytes}
use Rattle.xb_rx.specs.Shown.{shown}
use Rattle.xb_rx.proofs.PartSteps.{end-shown}
use Rattle.xb_rx.proofs.parts.Parts.left.Goals as goal

pub returns : goal.returns
returns c =
    end-shown (shown c.args.self.now) (shown c.loosen.new.self).sheet (string_bytes c.new-text.result)
    (string_bytes c.loosen.new.out) (string_bytes c.end.new.out) c.requires c.new-text.ensures.bytes
    c.in_ok-loosen.ensures.text c.in_ok-end.ensures
