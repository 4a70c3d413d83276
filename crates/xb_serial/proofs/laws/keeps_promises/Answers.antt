use Rattle.xb_serial.proofs.Promises.{keeps_promises}
use Rattle.xb_serial.proofs.laws.keeps_promises.Goals as goal

pub returns : goal.returns
returns c = λ office rows marks taken. keeps_promises office rows marks taken
