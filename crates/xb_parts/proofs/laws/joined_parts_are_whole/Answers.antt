use Rattle.xb_parts.proofs.AcceptedPages.{joined_parts_are_whole}
use Rattle.xb_parts.proofs.laws.joined_parts_are_whole.Goals as goal

pub returns : goal.returns
returns c = joined_parts_are_whole
