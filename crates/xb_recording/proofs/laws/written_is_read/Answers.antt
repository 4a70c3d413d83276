use Rattle.xb_recording.proofs.WrittenTexts.{written_is_read}
use Rattle.xb_recording.proofs.laws.written_is_read.Goals as goal

pub returns : goal.returns
returns c = written_is_read
