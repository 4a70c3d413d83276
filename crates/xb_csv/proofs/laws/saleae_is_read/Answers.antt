use Rattle.xb_csv.proofs.WrittenSaleae.{saleae_is_read}
use Rattle.xb_csv.proofs.laws.saleae_is_read.Goals as goal

pub returns : goal.returns
returns c = saleae_is_read
