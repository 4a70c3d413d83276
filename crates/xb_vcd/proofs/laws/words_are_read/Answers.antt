use Rattle.std.proofs.Common.{refl}
use Rattle.xb_vcd.proofs.laws.words_are_read.Goals as goal

pub returns : goal.returns
returns c = record {
  time = refl;
  largest = refl;
  too_large = refl;
  no_time = refl;
  high = refl;
  low = refl;
  two_bytes = refl;
  no_wire = refl;
  unknown = refl;
  vector = refl;
  long_vector = refl;
  real = refl;
  end = refl;
  scale = refl;
  dump = refl;
  comment = refl;
  other = refl;
}
