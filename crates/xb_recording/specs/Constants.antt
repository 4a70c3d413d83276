-- The numbers of a recording's text, each as it is.
use Rattle.std.specs.Prelude.{◌≡◌, [], ◌∷◌}
use Rattle.xb_recording.specs.declared.format.TheConstants.{BYTE_ORDER_MARK}
use Rattle.xb_recording.specs.declared.reader.TheConstants.{MOST_LINE_BYTES}

-- a definition that cites a constant means this number, or these bytes
pub record AreConstants : Type 0 where
  pub most_line_bytes : MOST_LINE_BYTES ≡ 65536
  pub byte_order_mark : BYTE_ORDER_MARK.now ≡ 239 ∷ 187 ∷ 191 ∷ []
