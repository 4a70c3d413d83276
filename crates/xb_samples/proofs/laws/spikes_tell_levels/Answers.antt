use Rattle.xb_samples.proofs.Spikes.{spikes_tell_levels}
use Rattle.xb_samples.proofs.laws.spikes_tell_levels.Goals as goal

pub returns : goal.returns
returns c = spikes_tell_levels
