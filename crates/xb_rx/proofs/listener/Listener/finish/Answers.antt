use Rattle.xb_rx.proofs.listener.Listener.finish.Goals as goal

pub returns : goal.returns
returns c = λ samples keys has. c.finish.ensures samples keys has.received
