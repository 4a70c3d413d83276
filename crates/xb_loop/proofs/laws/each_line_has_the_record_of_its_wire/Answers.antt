use Rattle.xb_loop.proofs.Followed.{gives_each_record}
use Rattle.xb_loop.proofs.laws.each_line_has_the_record_of_its_wire.Goals as goal

pub returns : goal.returns
returns c = gives_each_record
