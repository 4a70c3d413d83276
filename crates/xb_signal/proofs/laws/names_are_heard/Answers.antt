use Rattle.xb_signal.proofs.HeardNames.{keys_sound_as_marks, named_keys_are_heard, names_are_heard}
use Rattle.xb_signal.proofs.laws.names_are_heard.Goals as goal

pub returns-clause-marks : goal.returns-clause-marks
returns-clause-marks c = keys_sound_as_marks

pub returns-clause-keys : goal.returns-clause-keys
returns-clause-keys c = named_keys_are_heard

pub returns-clause-names : goal.returns-clause-names
returns-clause-names c = names_are_heard
