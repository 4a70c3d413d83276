-- The text of each fault.
use Rattle.std.specs.Prelude.{ℕ, ◌++◌, ◌&&◌, ◌/◌, ◌%◌, nat_le, nat_lt, if◌then◌else◌, List, codes, decimal, encode_utf8}
use Rattle.std.specs.Char.{digit_char}
use Rattle.xb_calls.specs.declared.wrong_byte.WrongByte.{WrongByte}
use Rattle.xb_calls.specs.declared.speed.SpeedFault.{SpeedFault}
use Rattle.xb_calls.specs.declared.speed.SpeedFault.TheVariants as speed
use Rattle.xb_calls.specs.declared.fault.CallFault.{CallFault}
use Rattle.xb_calls.specs.declared.fault.CallFault.TheVariants as call

-- a byte in two hexadecimal digits
abbrev pub hex_text : ℕ → List ℕ
hex_text byte = encode_utf8 (digit_char (byte / 16)) ++ encode_utf8 (digit_char (byte % 16))

-- a byte that may not stand at its place: printable ASCII as it is
abbrev pub wrong_byte_text : WrongByte → List ℕ
wrong_byte_text wrong = if nat_le 32 wrong.byte && nat_lt wrong.byte 127
    then codes "at byte " ++ decimal wrong.place ++ codes ": \"" ++ encode_utf8 wrong.byte ++ codes "\""
    else codes "at byte " ++ decimal wrong.place ++ codes ": \\x" ++ hex_text wrong.byte

-- of a speed
abbrev pub speed_text : SpeedFault → List ℕ
speed_text speed.Break = codes "the break is no pulse"
speed_text speed.Make = codes "the make is too short, or a pause"
speed_text speed.Pause = codes "the pause is too short, or a time-out"
speed_text speed.Seize = codes "the seizing make is 0, or a time-out"
speed_text speed.HangUp = codes "the hang-up is no release, or longer than a day"

-- of the text of calls
abbrev pub call_text : CallFault → List ℕ
call_text (call.Line number field) =
    codes "text line " ++ decimal number ++ codes ": \"" ++ field ++ codes "\" is no line of 0 to 9999"
call_text (call.Digit number byte) =
    codes "text line " ++ decimal number ++ codes " has a wrong digit " ++ wrong_byte_text byte
call_text (call.NoDigits number) = codes "text line " ++ decimal number ++ codes " has no digits"
call_text (call.Unfinished number) =
    codes "text line " ++ decimal number ++ codes " has a number that is not complete"
call_text (call.GoesOn number) =
    codes "text line " ++ decimal number ++ codes " has a number that goes on after it is complete"
call_text call.NoMemory = codes "out of memory"
