use Rattle.std.proofs.Common.{◌∙◌, None}
use Rattle.xb_closes.specs.Fed.{fed}
use Rattle.xb_images.proofs.Chain.{chain-fed}
use Rattle.xb_images.proofs.LineTapes.{serial_image-line}
use Rattle.xb_images.proofs.laws.images_are_tapes.Goals as goal

pub returns : goal.returns
returns c = λ plan limits routes rows l lawful below.
    serial_image-line plan limits routes l (fed rows None) ∙ chain-fed plan limits routes l rows lawful below
