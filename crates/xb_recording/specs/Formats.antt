-- The names of the forms of recordings.
use Rattle.std.specs.Prelude.{ℕ, List, Option, Some, None, bytes_eq, codes, if◌then◌else◌}
use Rattle.xb_recording.specs.declared.format.Format.{Format}
use Rattle.xb_recording.specs.declared.format.Format.TheVariants as formats

-- the form of a name
abbrev pub format_of : List ℕ → Option Format
format_of name =
    if bytes_eq name (codes "vcd") then Some formats.Vcd
    else (if bytes_eq name (codes "sigrok") then Some formats.Sigrok
    else (if bytes_eq name (codes "saleae") then Some formats.Saleae
    else (if bytes_eq name (codes "edges") then Some formats.Edges
    else (if bytes_eq name (codes "gpiomon") then Some formats.Gpiomon
    else (if bytes_eq name (codes "bits") then Some formats.Bits
    else (if bytes_eq name (codes "bits16") then Some formats.WideBits
    else (if bytes_eq name (codes "s16") then Some formats.Sixteen
    else (if bytes_eq name (codes "wav") then Some formats.Wav else None))))))))
