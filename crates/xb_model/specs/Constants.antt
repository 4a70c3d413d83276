-- The numbers of the profile, each as it is.
use Rattle.std.specs.Prelude.{◌≡◌}
use Rattle.xb_model.specs.declared.digit.TheConstants.{DIGITS}
use Rattle.xb_model.specs.declared.digits.TheConstants.{NUMBER_DIGITS, PREFIX_DIGITS, KEY_DIGITS}
use Rattle.xb_model.specs.declared.field.TheConstants.{FIELD_DIGITS, LINE_DIGITS}
use Rattle.xb_model.specs.declared.limits.TheConstants.{GREATEST_LIMIT}
use Rattle.xb_model.specs.declared.line.TheConstants.{LINES}
use Rattle.xb_model.specs.declared.mark.TheConstants.{KEYING_MARKS}
use Rattle.xb_model.specs.declared.row.TheConstants.{GREATEST_MS}
use Rattle.xb_model.specs.declared.signal.TheConstants.{MOST_PULSES, MANY_BREAKS}
use Rattle.xb_model.specs.declared.trunk.TheConstants.{TRUNKS}

-- a definition that cites a constant means this number
pub record AreConstants : Type 0 where
  pub lines : LINES ≡ 10000
  pub trunks : TRUNKS ≡ 10000
  pub greatest_ms : GREATEST_MS ≡ 86400000
  pub greatest_limit : GREATEST_LIMIT ≡ 1000000
  pub most_pulses : MOST_PULSES ≡ 10
  pub many_breaks : MANY_BREAKS ≡ 11
  pub digits : DIGITS ≡ 10
  pub number_digits : NUMBER_DIGITS ≡ 10
  pub prefix_digits : PREFIX_DIGITS ≡ 8
  pub key_digits : KEY_DIGITS ≡ 18
  pub keying_marks : KEYING_MARKS ≡ 21
  pub line_digits : LINE_DIGITS ≡ 4
  pub field_digits : FIELD_DIGITS ≡ 8
