use Rattle.std.proofs.Common.{refl}
use Rattle.xb_turns.proofs.laws.worked_trains.Goals as goal

pub returns : goal.returns
returns c = record {
  ten = refl;
  twenty = refl;
  in_tenths = refl;
  slower = refl;
  last_break = refl;
  single = refl;
  bounced = refl;
}
