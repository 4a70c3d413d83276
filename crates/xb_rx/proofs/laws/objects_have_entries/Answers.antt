use Rattle.xb_rx.proofs.ObjectSteps.{objects_have_entries}
use Rattle.xb_rx.proofs.laws.objects_have_entries.Goals as goal

pub returns : goal.returns
returns c = objects_have_entries
