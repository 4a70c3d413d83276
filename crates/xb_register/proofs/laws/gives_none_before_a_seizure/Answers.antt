use Rattle.xb_register.proofs.AtMost.{gives_none_before}
use Rattle.xb_register.proofs.laws.gives_none_before_a_seizure.Goals as goal

pub returns : goal.returns
returns c = gives_none_before
