use Rattle.std.proofs.Common.{refl}
use Rattle.xb_csv.specs.Cells.{trimmed}
use Rattle.xb_csv.specs.Gpiomons.{between, first_kind, first_word, names_wire, second_kind}
use Rattle.xb_csv.specs.Seconds.{nanoseconds_of}
use Rattle.xb_csv.proofs.laws.edges_are_read.Goals as goal

pub returns : goal.returns
unfolding between first_kind first_word names_wire nanoseconds_of second_kind trimmed
returns c = record {
  of_libgpiod_1 = refl;
  of_libgpiod_2 = refl;
  backwards = refl;
  lost = refl;
  lost_and_allowed = refl;
  lost_elsewhere = refl;
  no_time = refl;
  no_edge = refl;
}
