-- The worked cases hold.
use Rattle.std.proofs.Common.{refl}
use Rattle.xb_laws.specs.Worked.{AreSentAsWorked}

pub are_sent_as_worked : AreSentAsWorked
are_sent_as_worked = record {
  into_b = refl;
  into_c = refl;
  beyond_c = refl;
  no_route = refl;
  no_digit = refl;
  after_none = refl;
  twelve = refl;
  after_twelve = refl;
}
