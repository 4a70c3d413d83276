use Rattle.std.proofs.Common.{◌∙◌, ap, sym}
use Rattle.std.specs.Prelude.{option_copied}
use Rattle.xb_text.specs.Pieces.{pieces_left}
use Rattle.xb_signal.specs.ReadTones.{given_after}
use Rattle.xb_signal.proofs.ReadTones.{given-end}
use Rattle.xb_signal.proofs.word.tones_of.Goals as goal

pub returns : goal.returns
returns c =
    sym (c.loop-left.invariant.given
    ∙ ap (λ left. given_after c.loop-left.tones (pieces_left 43 (option_copied left))) c.in_default.is
    ∙ given-end c.loop-left.tones c.loop-left.invariant.few)
