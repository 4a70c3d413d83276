use Rattle.xb_worn.proofs.ChangedDigits.{extra_pulse, lost_pulse}
use Rattle.xb_worn.proofs.laws.a_pulse_lost_or_more_changes_the_digit.Goals as goal

pub returns-clause-lost : goal.returns-clause-lost
returns-clause-lost c = lost_pulse

pub returns-clause-extra : goal.returns-clause-extra
returns-clause-extra c = extra_pulse
