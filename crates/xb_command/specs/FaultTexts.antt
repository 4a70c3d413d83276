-- The text of why a file is not read.
use Rattle.std.specs.Prelude.{ℕ, ◌++◌, List, chars, codes, encode_utf8, if◌then◌else◌, Option, Some, None}
use Rattle.std.specs.Char.{is_control}
use Rattle.std.specs.List.{flat_map}
use Rattle.xb_command.specs.declared.opening.NoText.{NoText}
use Rattle.xb_command.specs.declared.opening.NoText.TheVariants.{Sound, Utf16}
use Rattle.xb_command.specs.declared.opening.OpenFault.{OpenFault}
use Rattle.xb_command.specs.declared.opening.OpenFault.TheVariants as fault

-- a character as it is told in a line: `?` (63) for a control character
abbrev pub sign_text : ℕ → List ℕ
sign_text sign = encode_utf8 (if is_control sign then 63 else sign)

-- a name in one line
abbrev pub one_line : List ℕ → List ℕ
one_line name = flat_map sign_text (chars name)

-- a file that is no text
abbrev pub no_text_text : NoText → List ℕ
no_text_text Utf16 = codes "it is UTF-16, and UTF-8 is taken: iconv -f UTF-16 -t UTF-8 makes that of it"
no_text_text Sound = codes "it is a sound, which mfrx and mfloop take"

-- a file that is not read, with its name; the reason of the system is not said
abbrev pub open_text : OpenFault → Option (List ℕ)
open_text (fault.System name error) = None
open_text (fault.NoText name what) = Some (one_line name.now ++ codes ": " ++ no_text_text what)
