-- The text of calls: one in each text line, as `7 234-5678`.
use Rattle.std.specs.Prelude.{◌≡◌, ◌⊎◌, ℕ, ◌+◌, ◌==◌, ◌&&◌, not, nat_lt, if◌then◌else◌, List, [], ◌∷◌, take, drop, length, Bool, Option, Some, None, Result, Ok, Err}
use Rattle.std.specs.Char.{is_ascii_digit}
use Rattle.std.specs.List.{filter_map, position}
use Rattle.std.specs.Option.{unwrap_or}
use Rattle.xb_model.specs.declared.plan.Plan.{Plan}
use Rattle.xb_model.specs.Digits.{digit_of_ascii}
use Rattle.xb_model.specs.Plans.{plan_len}
use Rattle.xb_model.specs.Fields.{line_of}
use Rattle.xb_calls.specs.declared.fault.CallFault.{CallFault}
use Rattle.xb_calls.specs.declared.fault.CallFault.TheVariants as fault
use Rattle.xb_calls.specs.declared.wrong_byte.WrongByte.{WrongByte}
use Rattle.xb_calls.specs.Calls.{DialledCall, call_of}
use Rattle.xb_calls.specs.Lists.{after_blanks, is_blank, is_grouping, is_passed_over, text_lines}
use Rattle.xb_calls.specs.ToldFields.{told}
use Rattle.xb_calls.specs.WrongBytes.{first_wrong}

-- the two fields of a text line: what stands before the first blank that is not at its beginning, and what follows
abbrev pub two_fields : List ℕ → List ℕ × List ℕ
two_fields line =
    let call = after_blanks line in
    let n = unwrap_or (position is_blank call) (length call) in
    (take n call, drop n call)

-- a byte of a text line that is neither a digit, nor groups digits
abbrev pub is_wrong : ℕ → Bool
is_wrong byte = not (is_grouping byte) && not (is_ascii_digit byte)

-- the digits that a field writes
abbrev pub digits_of : List ℕ → List ℕ
digits_of field = filter_map digit_of_ascii field

-- of so many digits, whose number has this length: they are fewer, or more
abbrev pub length_fault : ℕ → Option ℕ → ℕ → Option CallFault
length_fault n None count = Some (fault.Unfinished n)
length_fault n (Some len) count =
    if len == count then None else (if nat_lt count len then Some (fault.Unfinished n) else Some
    (fault.GoesOn n))

-- where a plan is given, the number is complete by it
abbrev pub number_fault : Option Plan → ℕ → List ℕ → Option CallFault
number_fault None n digits = None
number_fault (Some plan) n digits = length_fault n (plan_len plan digits) (length digits)

abbrev pub call_unless : Option CallFault → DialledCall → Result DialledCall CallFault
call_unless None call = Ok call
call_unless (Some f) call = Err f

-- there are digits, and they are a number of the plan
abbrev pub call_of_digits : Option Plan → ℕ → ℕ → List ℕ → Result DialledCall CallFault
call_of_digits whole n line [] = Err (fault.NoDigits n)
call_of_digits whole n line (digit ∷ digits) =
    call_unless (number_fault whole n (digit ∷ digits)) (call_of line (digit ∷ digits))

-- what is there, or else a fault
abbrev pub or_fault : CallFault → Option ℕ → (ℕ → Result DialledCall CallFault) → Result DialledCall CallFault
or_fault f None next = Err f
or_fault f (Some x) next = next x

-- no byte is wrong, or else the first that is
abbrev pub unless_wrong : ℕ → Option WrongByte → Result DialledCall CallFault → Result DialledCall CallFault
unless_wrong n None call = call
unless_wrong n (Some wrong) call = Err (fault.Digit n wrong)

-- the call of text line n, or its first fault: line, digits, number
abbrev pub call_of_line : Option Plan → ℕ → List ℕ → Result DialledCall CallFault
call_of_line whole n text =
    let fields = two_fields text in
    or_fault (fault.Line n (told fields.0)) (line_of fields.0) (λ line.
    unless_wrong n (first_wrong is_wrong text) (call_of_digits whole n line (digits_of fields.1)))

-- a call before the later ones, or the first fault
abbrev pub call_and_rest : Result DialledCall CallFault → Result (List DialledCall) CallFault
    → Result (List DialledCall) CallFault
call_and_rest (Err f) rest = Err f
call_and_rest (Ok call) (Err f) = Err f
call_and_rest (Ok call) (Ok calls) = Ok (call ∷ calls)

-- the calls of text lines that count from n
unfoldable pub calls_from : Option Plan → ℕ → List (List ℕ) → Result (List DialledCall) CallFault
calls_from whole n [] = Ok []
calls_from whole n (line ∷ lines) =
    if is_passed_over line then calls_from whole (n + 1) lines
    else call_and_rest (call_of_line whole n line) (calls_from whole (n + 1) lines)

-- the calls of a text, or its first fault; text lines count from 1
abbrev pub calls_of_text : Option Plan → List ℕ → Result (List DialledCall) CallFault
calls_of_text whole text = calls_from whole 1 (text_lines text)

-- memory ran out, or this is the fault
abbrev pub IsFaultOf : {T : Type 0} → Result T CallFault → CallFault → Type 0
IsFaultOf says f = (f ≡ fault.NoMemory) ⊎ (says ≡ Err f)
