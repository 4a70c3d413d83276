-- The numbers by which a deck is suspicious, each as it is.
use Rattle.std.specs.Prelude.{◌≡◌}
use Rattle.xb_doubts.specs.declared.counted.TheConstants.{LEAST_DIGITS, LEAST_PULSES, LEAST_RINGS, RINGING_MS}
use Rattle.xb_doubts.specs.declared.exchanged.TheConstants.{DIAL_MS}
use Rattle.xb_doubts.specs.declared.units.TheConstants.{LEAST_BREAKS}

-- a definition that cites a constant means this number
pub record AreConstants : Type 0 where
  pub least_rings : LEAST_RINGS ≡ 10
  pub ringing_ms : RINGING_MS ≡ 100
  pub least_breaks : LEAST_BREAKS ≡ 10
  pub least_digits : LEAST_DIGITS ≡ 3
  pub least_pulses : LEAST_PULSES ≡ 2
  pub dial_ms : DIAL_MS ≡ 40
