-- The key that a text line says, as `mfrx --json` writes it.
use Rattle.std.specs.Prelude.{ℕ, ◌≡◌, ◌⊎◌, ◌+◌, ◌-◌, ◌^◌, min, List, [], ◌∷◌, length, if◌then◌else◌, nat_le, bytes_eq, codes, Option, Some, None, is_some, option_and_then, option_map, Result, Ok, Err}
use Rattle.std.specs.Str.{is_utf8}
use Rattle.serde_json.specs.Data.{Data}
use Rattle.serde_json.specs.Find.{as_number, as_object, as_str, as_u64, get}
use Rattle.serde_json.specs.Read.{read}
use Rattle.xb_incoming.specs.declared.key.Symbol.{Symbol}
use Rattle.xb_incoming.specs.declared.key.Symbol.TheVariants.{Digit, Kp, St, Other}
use Rattle.xb_incoming.specs.declared.key.TimedKey.{TimedKey}
use Rattle.xb_model.specs.Digits.{digit_of_ascii}
use Rattle.xb_tandem.specs.declared.fault.LineFault.{LineFault}
use Rattle.xb_tandem.specs.declared.fault.LineFault.TheVariants as fault
use Rattle.xb_tandem.specs.declared.lines.TheConstants.{MOST_LINE_BYTES}

-- what a text line says: a key, or none; or why it is wrong
abbrev pub Said : Type 0
Said = Result (Option TimedKey) LineFault

-- the names of keys: a digit, KP, ST, and those of the pairs that are none of these
abbrev pub digit_named : List ℕ → Option Symbol
digit_named [] = None
digit_named (byte ∷ []) = option_map (λ d. Digit d) (digit_of_ascii byte)
digit_named (byte ∷ more ∷ name) = None

abbrev pub symbol_of_name : List ℕ → Option Symbol
symbol_of_name name =
    if bytes_eq name (codes "KP") then Some Kp
    else (if bytes_eq name (codes "ST") then Some St
    else (if bytes_eq name (codes "ST'") then Some Other
    else (if bytes_eq name (codes "KP2/ST''") then Some Other
    else (if bytes_eq name (codes "ST'''") then Some Other
    else digit_named name))))

-- a member that is a whole number of 64 bits
abbrev pub whole_in : List ℕ → Data → Option ℕ
whole_in name value = option_and_then (λ value. option_and_then as_u64 (as_number value)) (get name value)

-- a key that begins and lasts so long, whose end is a number of 64 bits
abbrev pub key_at : Symbol → ℕ → ℕ → TimedKey
key_at what begin lasts = record { what = what; begin_ms = begin; end_ms = min (begin + lasts) (2 ^ 64 - 1) }

abbrev pub timed_by : Symbol → Option ℕ → Option ℕ → Said
timed_by what (Some begin) (Some lasts) = Ok (Some (key_at what begin lasts))
timed_by what (Some begin) None = Err fault.NoTimes
timed_by what None lasts = Err fault.NoTimes

-- a key with the times that its object says
abbrev pub timed : Symbol → Data → Said
timed what value = timed_by what (whole_in (codes "at_ms") value) (whole_in (codes "length_ms") value)

abbrev pub named : Data → Option Symbol → Said
named value None = Err fault.NoName
named value (Some what) = timed what value

-- an object without a key is passed over
abbrev pub key_by : Data → Option Data → Said
key_by value None = Ok None
key_by value (Some name) = named value (option_and_then symbol_of_name (as_str name))

abbrev pub key_in : Data → Said
key_in value = if is_some (as_object value) then key_by value (get (codes "key") value) else Err fault.NoObject

abbrev pub key_of_data : Option Data → Said
key_of_data None = Err fault.NoObject
key_of_data (Some value) = key_in value

-- what a text line says
abbrev pub key_of_line : List ℕ → Said
key_of_line line =
    if nat_le (length line) MOST_LINE_BYTES then key_of_data (if is_utf8 line then read line else None)
    else Err fault.TooLong

-- memory ran out, or it is the fault of the line
abbrev pub IsFaultOfLine : List ℕ → LineFault → Type 0
IsFaultOfLine line f = (f ≡ fault.NoMemory) ⊎ (key_of_line line ≡ Err f)
