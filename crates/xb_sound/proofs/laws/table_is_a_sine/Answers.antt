use Rattle.xb_sound.proofs.SineTables.{table_is_a_sine}
use Rattle.xb_sound.proofs.laws.table_is_a_sine.Goals as goal

pub returns : goal.returns
returns c = table_is_a_sine
