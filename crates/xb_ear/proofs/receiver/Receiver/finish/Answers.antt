use Rattle.std.proofs.Common.{refl, subst, sym}
use Rattle.xb_ear.specs.Receivers.{HasReceived}
use Rattle.xb_ear.proofs.Taken.{finished}
use Rattle.xb_ear.proofs.receiver.Receiver.finish.Goals as goal

pub returns : goal.returns
returns c samples keys has =
    let before = subst (λ receiver. HasReceived receiver samples keys) (sym c.self.view_is) has in
    finished _ samples keys _ before refl
