use Rattle.xb_structs.proofs.FilledTables.{fills-from}
use Rattle.xb_structs.proofs.laws.fills_as_a_text.Goals as goal

pub returns : goal.returns
returns c = λ plan limits items keys said. fills-from plan limits items 1 _ keys said
