use Rattle.xb_tape.proofs.PageFormats.{entry_text-body}
use Rattle.xb_route.proofs.laws.pages_write_bodies.Goals as goal

pub returns : goal.returns
returns c = entry_text-body
