-- The faults of a dial that a word says.
use Rattle.std.specs.Prelude.{ℕ, ◌≡◌, ◌-◌, ◌^◌, ◌&&◌, List, [], ◌∷◌, ◌++◌, Option, Some, None, bytes_eq, codes, nat_le, option_map, if◌then◌else◌}
use Rattle.std.specs.Option.{option_and_then}
use Rattle.clap.specs.Walk.{Text}
use Rattle.xb_command.specs.declared.asking.Answer.{Answer}
use Rattle.xb_command.specs.declared.asking.Answer.TheVariants as answer
use Rattle.xb_command.specs.declared.asking.Misfit.{Misfit}
use Rattle.xb_contact.specs.Numbers.{number_of}
use Rattle.xb_model.specs.declared.row.TheConstants.{GREATEST_MS}
use Rattle.xb_text.specs.Pieces.{cut_at, pieces}
use Rattle.xb_worn.specs.declared.fault.DigitFault.TheVariants as digit_fault
use Rattle.xb_worn.specs.declared.fault.Fault.{Fault}
use Rattle.xb_worn.specs.declared.fault.Fault.TheVariants as fault
use Rattle.xb_worn.specs.declared.fault.PulseFault.TheVariants as pulse_fault
use Rattle.xb_worn.specs.Faults.{digit_place, pulse_place}
use Rattle.xb_dial.specs.declared.fault_words.Kind.{Kind}
use Rattle.xb_dial.specs.declared.fault_words.Kind.TheVariants as kind
use Rattle.xb_dial.specs.declared.fault_words.Place.{Place}
use Rattle.xb_dial.specs.declared.fault_words.Place.TheVariants as place

-- the bytes between the parts of a word
abbrev pub point : ℕ
point = 46

abbrev pub colon : ℕ
colon = 58

abbrev pub equals : ℕ
equals = 61

abbrev pub comma : ℕ
comma = 44

-- a number, where it is in its range
abbrev pub in_range : ℕ → ℕ → ℕ → Option ℕ
in_range least most number = if nat_le least number && nat_le number most then Some number else None

-- the number of a call, a digit or a pulse: one of 32 bits
abbrev pub number_said : Text → Option ℕ
number_said text = option_and_then (in_range 0 (2 ^ 32 - 1)) (number_of text)

-- a time in ms that may stand in a row, and is not 0
abbrev pub lasting : Text → Option ℕ
lasting text = option_and_then (in_range 1 GREATEST_MS) (number_of text)

-- a digit of a call, or a pulse of a digit of it: `3`, or `3.2`
abbrev pub place_in_digit : ℕ → Option (Text × Text) → Text → Option Place
place_in_digit call None text = option_map (λ digit. place.Digit (digit_place call digit)) (number_said text)
place_in_digit call (Some parts) text =
    option_and_then (λ digit. option_map (λ pulse. place.Pulse (pulse_place (digit_place call digit) pulse))
    (number_said parts.1)) (number_said parts.0)

abbrev pub place_in_call : ℕ → Text → Option Place
place_in_call call text = place_in_digit call (cut_at point text) text

-- a place: a call, a digit or a pulse, as `1`, `1.3` or `1.3.2`
abbrev pub place_by_parts : Option (Text × Text) → Text → Option Place
place_by_parts None text = option_map place.Call (number_said text)
place_by_parts (Some parts) text = option_and_then (λ call. place_in_call call parts.1) (number_said parts.0)

abbrev pub place_said : Text → Option Place
place_said text = place_by_parts (cut_at point text) text

-- what a word says without ms, and with so many
abbrev pub said_without_ms : Text → Option Kind
said_without_ms name =
    if bytes_eq name (codes "lost") then Some kind.Lost
    else (if bytes_eq name (codes "extra") then Some kind.Extra else None)

abbrev pub said_with_ms : Text → ℕ → Option Kind
said_with_ms name ms =
    if bytes_eq name (codes "break") then Some (kind.Break ms)
    else (if bytes_eq name (codes "pause") then Some (kind.Pause ms)
    else (if bytes_eq name (codes "flash") then Some (kind.Flash ms)
    else (if bytes_eq name (codes "preliminary") then Some (kind.Preliminary ms) else None)))

-- what a fault does, as `lost` or `break=130`
abbrev pub kind_by_parts : Option (Text × Text) → Text → Option Kind
kind_by_parts None text = said_without_ms text
kind_by_parts (Some parts) text = option_and_then (said_with_ms parts.0) (lasting parts.1)

abbrev pub kind_said : Text → Option Kind
kind_said text = kind_by_parts (cut_at equals text) text

-- a fault of a pulse stands at a pulse, one of the end of a digit at a digit, and a preliminary pulse at a call
abbrev pub fault_of : Place → Kind → Option Fault
fault_of (place.Pulse at) (kind.Break ms) = Some (fault.Pulse at (pulse_fault.Break ms))
fault_of (place.Pulse at) kind.Lost = Some (fault.Pulse at pulse_fault.Lost)
fault_of (place.Pulse at) kind.Extra = Some (fault.Pulse at pulse_fault.Extra)
fault_of (place.Digit at) (kind.Pause ms) = Some (fault.Digit at (digit_fault.Pause ms))
fault_of (place.Digit at) (kind.Flash ms) = Some (fault.Digit at (digit_fault.Flash ms))
fault_of (place.Call call) (kind.Preliminary ms) = Some (fault.Preliminary call ms)
fault_of at what = None

-- the fault that a word says, as `1.3.2:break=130`
abbrev pub fault_by_parts : Text × Text → Option Fault
fault_by_parts parts =
    option_and_then (λ at. option_and_then (fault_of at) (kind_said parts.1)) (place_said parts.0)

abbrev pub fault_said : Text → Option Fault
fault_said word = option_and_then fault_by_parts (cut_at colon word)

-- after these words; none where one is no fault
abbrev pub faults_after : List Fault → List Text → Option (List Fault)
faults_after faults [] = Some faults
faults_after faults (word ∷ words) =
    option_and_then (λ fault. faults_after (faults ++ fault ∷ []) words) (fault_said word)

-- the faults that an option says
abbrev pub faults_said : Option Text → Option (List Fault)
faults_said None = Some []
faults_said (Some text) = faults_after [] (pieces comma text)

-- a text says no faults, and this is said of the option; or memory ran out
abbrev pub AreNoFaults : Option Text → Misfit → Type 0
AreNoFaults text misfit = (faults_said text ≡ None) × (misfit.option.now ≡ codes "fault")

abbrev pub IsNoFaults : Option Text → Answer → Type 0
IsNoFaults text answer.NoMemory = Unit {0}
IsNoFaults text (answer.Unfit misfit) = AreNoFaults text misfit
IsNoFaults text _ = ⊥
