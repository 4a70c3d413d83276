-- The numbers of the format, each as it is.
use Rattle.std.specs.Prelude.{◌≡◌}
use Rattle.xb_rows.specs.declared.kept.TheConstants.{MOST_FIELD_BYTES}
use Rattle.xb_rows.specs.declared.record.TheConstants.{MS_DIGITS}
use Rattle.xb_rows.specs.declared.scan.TheConstants.{MOST_RECORDS}
use Rattle.xb_rows.specs.declared.text_line.TheConstants.{KEPT_BYTES}

-- a definition that cites a constant means this number
pub record AreConstants : Type 0 where
  pub kept_bytes : KEPT_BYTES ≡ 9
  pub ms_digits : MS_DIGITS ≡ 8
  pub most_records : MOST_RECORDS ≡ 1000000
  pub most_field_bytes : MOST_FIELD_BYTES ≡ 4096
