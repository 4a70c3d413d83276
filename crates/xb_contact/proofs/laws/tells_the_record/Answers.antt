use Rattle.xb_contact.proofs.Told.{tells_the_record}
use Rattle.xb_contact.proofs.laws.tells_the_record.Goals as goal

pub returns : goal.returns
returns c = tells_the_record
