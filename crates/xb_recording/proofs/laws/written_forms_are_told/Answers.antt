use Rattle.xb_recording.proofs.WrittenForms.{written_forms_are_told}
use Rattle.xb_recording.proofs.laws.written_forms_are_told.Goals as goal

pub returns : goal.returns
returns c = written_forms_are_told
