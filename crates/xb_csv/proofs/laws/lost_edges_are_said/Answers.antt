use Rattle.xb_csv.proofs.LostEdges.{lost_edges_are_said}
use Rattle.xb_csv.proofs.laws.lost_edges_are_said.Goals as goal

pub returns : goal.returns
returns c = lost_edges_are_said
