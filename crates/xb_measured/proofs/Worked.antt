-- Levels, as worked by hand.
use Rattle.std.proofs.Common.{refl}
use Rattle.std.specs.Fmt.{digits}
use Rattle.xb_measured.specs.Levels.{has_reached}
use Rattle.xb_measured.specs.Worked.{LevelsAreAsWorked}

pub levels_are_as_worked : LevelsAreAsWorked
unfolding digits has_reached
levels_are_as_worked = record {
  greatest = refl;
  half = refl;
  tone = refl;
  tenth = refl;
  least = refl;
  none_of_two = refl;
}
