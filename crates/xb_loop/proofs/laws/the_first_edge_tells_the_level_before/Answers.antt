use Rattle.xb_loop.proofs.FirstEdges.{first_edges_tell, makes_before_seize}
use Rattle.xb_loop.proofs.FirstMakes.{first_makes_are_heard}
use Rattle.xb_loop.proofs.laws.the_first_edge_tells_the_level_before.Goals as goal

pub returns-clause-tells : goal.returns-clause-tells
returns-clause-tells c = first_edges_tell

pub returns-clause-seizes : goal.returns-clause-seizes
returns-clause-seizes c = makes_before_seize

pub returns-clause-heard : goal.returns-clause-heard
returns-clause-heard c = first_makes_are_heard
