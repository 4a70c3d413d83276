-- The numbers of a list of wires, and what a ms is in nanoseconds, each as it is.
use Rattle.std.specs.Prelude.{◌≡◌}
use Rattle.xb_contact.specs.Times.{scale_by}
use Rattle.xb_contact.specs.declared.scale.TheConstants.{NANOSECONDS}
use Rattle.xb_loop.specs.declared.found_names.TheConstants.{MOST_COLUMNS}
use Rattle.xb_loop.specs.declared.listing.TheConstants.{MOST_BEGINNING_BYTES}
use Rattle.xb_loop.specs.declared.names.TheConstants.{MOST_NAMES}

-- a definition that cites a constant means this number
pub record AreConstants : Type 0 where
  pub most_names : MOST_NAMES ≡ 32
  pub most_columns : MOST_COLUMNS ≡ 33
  pub most_beginning_bytes : MOST_BEGINNING_BYTES ≡ 131072
  pub nanoseconds : NANOSECONDS ≡ scale_by 1 1000000
