use Rattle.xb_rx.proofs.HeardPages.{heard_is_paged}
use Rattle.xb_rx.proofs.laws.heard_is_paged.Goals as goal

pub returns : goal.returns
returns c = heard_is_paged
