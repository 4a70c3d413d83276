use Rattle.std.proofs.Common.{refl}
use Rattle.xb_ear.proofs.laws.tails_are_as_worked.Goals as goal

pub returns : goal.returns
returns c = record {
  same_level = refl;
  same_pair = refl;
  tail = refl;
  other_pair = refl;
  tail_of_another = refl;
  across_an_edge = refl;
  not_in_a_row = refl;
  silence = refl;
}
