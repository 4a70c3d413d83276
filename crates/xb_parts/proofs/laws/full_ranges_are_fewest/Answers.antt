use Rattle.xb_parts.proofs.FewestRanges.{full_ranges_are_fewest}
use Rattle.xb_parts.proofs.laws.full_ranges_are_fewest.Goals as goal

pub returns : goal.returns
returns c = full_ranges_are_fewest
