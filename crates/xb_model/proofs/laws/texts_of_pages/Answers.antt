use Rattle.std.proofs.Common.{refl}
use Rattle.std.specs.Fmt.{digits}
use Rattle.xb_model.specs.WorkedRows.{pulses, dial}
use Rattle.xb_model.specs.Page.{marks_text, entries_text, tapes_text}
use Rattle.xb_model.proofs.laws.texts_of_pages.Goals as goal

pub returns-clause-operator_call : goal.returns-clause-operator_call
unfolding pulses dial marks_text entries_text tapes_text digits
returns-clause-operator_call c = refl

pub returns-clause-seven_digits : goal.returns-clause-seven_digits
unfolding pulses dial marks_text entries_text tapes_text digits
returns-clause-seven_digits c = refl

pub returns-clause-no_rows : goal.returns-clause-no_rows
unfolding marks_text entries_text tapes_text digits
returns-clause-no_rows c = refl

pub returns-clause-unfinished : goal.returns-clause-unfinished
unfolding marks_text entries_text tapes_text digits
returns-clause-unfinished c = refl

pub returns-clause-refusals : goal.returns-clause-refusals
unfolding marks_text entries_text tapes_text digits
returns-clause-refusals c = refl
