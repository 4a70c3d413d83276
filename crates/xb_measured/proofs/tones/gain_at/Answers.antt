use Rattle.std.proofs.Common.{refl}
use Rattle.xb_measured.specs.Tones.{gains}
use Rattle.xb_measured.proofs.ToneSteps.{gain-small}
use Rattle.xb_measured.proofs.tones.gain_at.Goals as goal

pub returns-clause-value : goal.returns-clause-value
unfolding gains
returns-clause-value c = refl

pub returns-clause-bound : goal.returns-clause-bound
unfolding gains
returns-clause-bound c = gain-small c.args.off
