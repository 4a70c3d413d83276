use Rattle.xb_sound.proofs.ClearKeys.{keys_are_clear, tones_are_clear}
use Rattle.xb_sound.proofs.laws.keys_are_clear.Goals as goal

pub returns-clause-keys : goal.returns-clause-keys
returns-clause-keys c = keys_are_clear

pub returns-clause-tones : goal.returns-clause-tones
returns-clause-tones c = tones_are_clear
