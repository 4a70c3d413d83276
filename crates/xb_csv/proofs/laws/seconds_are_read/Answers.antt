use Rattle.std.proofs.Common.{refl}
use Rattle.xb_csv.specs.Seconds.{nanoseconds_of}
use Rattle.xb_csv.proofs.laws.seconds_are_read.Goals as goal

pub returns : goal.returns
unfolding nanoseconds_of
returns c = record {
  whole = refl;
  fraction = refl;
  before = refl;
  tenth_digit = refl;
  late = refl;
  too_late = refl;
  decimal_comma = refl;
  exponent = refl;
  exponent_before = refl;
  exponent_up = refl;
  part_of_a_nanosecond = refl;
  exponent_alone = refl;
  no_exponent = refl;
  two_exponents = refl;
  too_great = refl;
  nothing = refl;
}
