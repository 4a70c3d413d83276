use Rattle.xb_samples.proofs.HeardLevels.{hears_each_level}
use Rattle.xb_samples.proofs.laws.each_level_is_heard.Goals as goal

pub returns : goal.returns
returns c = hears_each_level
