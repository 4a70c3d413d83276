use Rattle.xb_samples.proofs.GreatestSamples.{measures_the_greatest}
use Rattle.xb_samples.proofs.laws.the_greatest_is_measured.Goals as goal

pub returns : goal.returns
returns c = measures_the_greatest
