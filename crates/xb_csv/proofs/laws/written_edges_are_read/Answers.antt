use Rattle.xb_csv.proofs.WrittenEdges.{written_edges_are_read}
use Rattle.xb_csv.proofs.laws.written_edges_are_read.Goals as goal

pub returns : goal.returns
returns c = written_edges_are_read
