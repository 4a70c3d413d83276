use Rattle.std.proofs.Common.{refl}
use Rattle.xb_csv.specs.Cells.{trimmed}
use Rattle.xb_csv.specs.Tables.{rate_of}
use Rattle.xb_csv.proofs.laws.rates_are_read.Goals as goal

pub returns : goal.returns
unfolding rate_of trimmed
returns c = record {
  plain = refl;
  hertz = refl;
  kilohertz = refl;
  megahertz = refl;
  gigahertz = refl;
  half_a_hertz = refl;
  part_of_a_hertz = refl;
  two_points = refl;
  no_unit = refl;
}
