use Rattle.std.proofs.Common.{refl}
use Rattle.xb_csv.proofs.laws.periods_are_cut.Goals as goal

pub returns : goal.returns
returns c = record {
  at_12_kilohertz = refl;
  at_24_kilohertz = refl;
  at_48_kilohertz = refl;
  at_12_megahertz = refl;
  at_16_megahertz = refl;
  at_24_megahertz = refl;
  at_48_megahertz = refl;
  whole = refl;
  long_unit = refl;
  no_rate = refl;
}
