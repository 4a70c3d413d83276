use Rattle.std.proofs.Common.{refl}
use Rattle.xb_measured.specs.Receivers.{ended_in}
use Rattle.xb_measured.proofs.receiver.Receiver.new.Goals as goal

pub returns : goal.returns
unfolding ended_in
returns c = record { ear = c.new.ensures; tape = c.new-2.ensures; given = refl }
