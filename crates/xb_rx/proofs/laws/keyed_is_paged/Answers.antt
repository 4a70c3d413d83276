use Rattle.xb_rx.proofs.PagedKeys.{keyed_is_paged}
use Rattle.xb_rx.proofs.laws.keyed_is_paged.Goals as goal

pub returns : goal.returns
returns c = keyed_is_paged
