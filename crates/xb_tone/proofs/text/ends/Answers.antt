use Rattle.std.proofs.Common.{◌∙◌, ap, sym}
use Rattle.std.specs.Prelude.{option_copied}
use Rattle.xb_text.specs.Pieces.{pieces_left}
use Rattle.xb_tone.specs.Texts.{ends}
use Rattle.xb_tone.proofs.Readings.{ends-pieces}
use Rattle.xb_tone.proofs.text.ends.Goals as goal

pub returns-in-Some : goal.returns-in-Some
returns-in-Some c =
    c.is_empty.ensures ∙ sym (ends-pieces c.in-Some.text.now)
    ∙ ap (λ o. ends (pieces_left 10 (option_copied o))) (sym c.in-Some.is)
