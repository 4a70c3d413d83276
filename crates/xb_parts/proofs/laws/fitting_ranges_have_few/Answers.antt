use Rattle.xb_parts.proofs.CountedRanges.{fitting_ranges_have_few}
use Rattle.xb_parts.proofs.laws.fitting_ranges_have_few.Goals as goal

pub returns : goal.returns
returns c = fitting_ranges_have_few
