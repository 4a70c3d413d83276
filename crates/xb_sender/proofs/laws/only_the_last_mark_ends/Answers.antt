use Rattle.xb_model.proofs.Entries.{marks_of-last}
use Rattle.xb_sender.proofs.laws.only_the_last_mark_ends.Goals as goal

pub returns : goal.returns
returns c = marks_of-last
