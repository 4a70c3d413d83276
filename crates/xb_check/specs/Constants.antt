-- The numbers of the program, each as it is.
use Rattle.std.specs.Prelude.{◌≡◌}
use Rattle.xb_check.specs.declared.reporting.TheConstants.{MOST_SHOWN_BYTES}

-- a definition that cites a constant means this number
pub record AreConstants : Type 0 where
  pub most_shown_bytes : MOST_SHOWN_BYTES ≡ 60
