-- What is printed of calls.
use Rattle.std.specs.Prelude.{◌≡◌, ℕ, ◌<◌, ◌≤◌, ◌-◌, ◌^◌, ◌==◌, ◌&&◌, Bool, true, false, List, [], ◌∷◌, length, Option, None, Result, Ok, Err, IfSome}
use Rattle.std.specs.Io.KnownBytes.{Appends, Keeps}
use Rattle.xb_model.specs.LawfulLimits.{standard_limits}
use Rattle.xb_model.specs.Rows.{LoopRow}
use Rattle.xb_rows.specs.declared.scan.TheConstants.{MOST_RECORDS}
use Rattle.xb_rows.specs.RowTexts.{rest_of_text, rows_and_stop}
use Rattle.xb_rows.specs.WrittenRows.{text_of_rows}
use Rattle.xb_calls.specs.declared.call_texts.TheConstants.{MOST_TEXT_BYTES}
use Rattle.xb_calls.specs.Calls.{DialledCall}
use Rattle.xb_calls.specs.CallTexts.{calls_of_text}
use Rattle.xb_calls.specs.Dialling.{dialled}
use Rattle.xb_calls.specs.Heard.{AreHeard, AreKeyed}
use Rattle.xb_calls.specs.declared.speed.SpeedFault.{SpeedFault}
use Rattle.xb_calls.specs.Speeds.{Fits, IsFirstMisfit}
use Rattle.xb_text.specs.Writing.{AppendsBeginning}
use Rattle.xb_dial.specs.Runs.{us_in}
use Rattle.xb_dial.specs.Traces.{trace_text}
use Rattle.xb_worn.specs.Places.{ArePlaced}
use Rattle.xb_worn.specs.Sending.{sent}
use Rattle.xb_worn.specs.Unworn.{IsUnworn}
use Rattle.xb_worn.specs.WornRows.{IsFaultOf, IsHeard, worn_rows}
use Rattle.xb_dial.specs.declared.fault.DialFault.{DialFault}
use Rattle.xb_dial.specs.declared.fault.DialFault.TheVariants as fault
use Rattle.xb_dial.specs.declared.request.Form.{Form}
use Rattle.xb_dial.specs.declared.request.Form.TheVariants.{Rows, Trace}
use Rattle.xb_dial.specs.declared.request.Manner.{Manner}
use Rattle.xb_dial.specs.declared.request.Request.{Request}

-- a call is of this line, calls are, and calls are of one
abbrev pub is_on : ℕ → DialledCall → Bool
is_on line call = call.line == line

abbrev pub are_on : ℕ → List DialledCall → Bool
are_on line [] = true
are_on line (call ∷ calls) = is_on line call && are_on line calls

abbrev pub are_of_one_line : List DialledCall → Bool
are_of_one_line [] = true
are_of_one_line (call ∷ calls) = are_on call.line (call ∷ calls)

-- a dump has the contact of one line
abbrev pub can_print : Form → List DialledCall → Bool
can_print Rows calls = true
can_print (Trace bouncing) calls = are_of_one_line calls

-- rows as they are printed: as text, or as the contact that they make
abbrev pub printed_of : Form → List LoopRow → List ℕ
printed_of Rows rows = text_of_rows rows
printed_of (Trace bouncing) rows = trace_text bouncing rows

-- as many rows as a deck may have are read back of their text
abbrev pub IsReadBack : Form → List LoopRow → Type 0
IsReadBack Rows rows = length rows ≤ MOST_RECORDS → rest_of_text (text_of_rows rows) ≡ rows_and_stop rows None
IsReadBack (Trace bouncing) rows = Unit {0}

-- this holds where a write failed
abbrev pub WhereWritten : DialFault → Type 0 → Type 0
WhereWritten fault.Write Holds = Holds
WhereWritten f Holds = Unit {0}

-- the dial is not worn and has no faults, and its speed fits the standard limits
pub record IsSound (request : Request) : Type 0 where
  pub unworn : IsUnworn request.manner.wear
  pub whole : request.faults.items ≡ []
  pub fits : Fits standard_limits request.manner.wear.speed

-- what is dialled is sent, and by the plan, if one is asked for, exactly the numbers of each line are heard, and keyed
pub record DialsWell (request : Request) (calls : List DialledCall) (rows : List LoopRow) : Type 0 where
  pub dialled : rows ≡ dialled request.manner.order request.manner.wear.speed calls
  pub heard : IfSome request.manner.whole (λ plan. AreHeard plan standard_limits calls rows)
  pub keyed : IfSome request.manner.whole (λ plan. AreKeyed plan standard_limits calls rows)

-- the rows of the calls of a text, as the dial sends them: of each line the outcomes are heard that its pulses have, and
-- of a sound dial the numbers that are dialled
pub record Sends (request : Request) (text : List ℕ) (rows : List LoopRow) : Type 0 where
  pub calls : List DialledCall
  pub are_read : calls_of_text request.manner.whole text ≡ Ok calls
  pub are_placed : ArePlaced calls request.faults.items
  pub are_sent : rows ≡ worn_rows request.manner.order request.manner.wear request.faults.items calls
  pub can_be_printed : can_print request.manner.form calls ≡ true
  pub heard : IsHeard request.manner.wear.speed.hang_up_ms (sent request.manner.wear request.faults.items calls) rows
  pub well : IsSound request → DialsWell request calls rows

-- what is printed of the calls of a text; rows are read back
pub record Dials (request : Request) (text printed : List ℕ) : Type 0 where
  pub rows : List LoopRow
  pub are_sent : Sends request text rows
  pub are_printed : printed ≡ printed_of request.manner.form rows
  pub read_back : IsReadBack request.manner.form rows

-- a fault tells of the speed
abbrev pub IsOfSpeed : DialFault → Type 0
IsOfSpeed f = (misfit : SpeedFault) × (f ≡ fault.Speed misfit)

-- unless any speed is taken, it is judged before the calls: it fits the standard limits, or its own first misfit is told
abbrev pub IsJudged : Manner → Result (Unit {0}) DialFault → Type 0
IsJudged manner (Err (fault.Speed f)) = IsFirstMisfit standard_limits manner.wear.speed f
IsJudged manner result = Fits standard_limits manner.wear.speed

abbrev pub IsNoSpeed : Result (Unit {0}) DialFault → Type 0
IsNoSpeed (Err (fault.Speed f)) = ⊥
IsNoSpeed result = Unit {0}

abbrev pub JudgesUnless : Bool → Manner → Result (Unit {0}) DialFault → Type 0
JudgesUnless true manner result = IsNoSpeed result
JudgesUnless false manner result = IsJudged manner result

abbrev pub JudgesSpeed : Manner → Result (Unit {0}) DialFault → Type 0
JudgesSpeed manner result = JudgesUnless manner.beyond manner result

-- memory ran out, or this is the fault of the calls, of their lines, or of what is sent of them
abbrev pub IsFaultOfCalls : Request → List ℕ → DialFault → Type 0
IsFaultOfCalls request text (fault.Calls f) = calls_of_text request.manner.whole text ≡ Err f
IsFaultOfCalls request text fault.SeveralLines =
    (calls : List DialledCall) × (calls_of_text request.manner.whole text ≡ Ok calls)
    × (can_print request.manner.form calls ≡ false)
IsFaultOfCalls request text (fault.Worn f) =
    (calls : List DialledCall) × (calls_of_text request.manner.whole text ≡ Ok calls)
    × IsFaultOf request.manner.wear request.faults.items calls f
IsFaultOfCalls request text f = f ≡ fault.NoMemory

-- memory ran out, a write failed, or a dump would be too long
abbrev pub IsFaultOfPrinting : Form → List LoopRow → DialFault → Type 0
IsFaultOfPrinting form rows fault.NoMemory = Unit {0}
IsFaultOfPrinting form rows fault.Write = Unit {0}
IsFaultOfPrinting (Trace bouncing) rows fault.LongDump = 2 ^ 64 - 1 ≤ us_in rows
IsFaultOfPrinting form rows f = ⊥

-- what is returned for a text of calls, and what the writer got of it: what is printed on Ok, its beginning
-- where a write failed, and nothing on any other fault
abbrev pub Delivers :
    Request → Option (List ℕ) → Result (Unit {0}) DialFault → Option (List ℕ) → Option (List ℕ) → Type 0
Delivers request text (Ok u) old new =
    IfSome text (λ bytes. (printed : List ℕ) × Dials request bytes printed × Appends old new printed)
Delivers request text (Err fault.Write) old new =
    IfSome text (λ bytes. (printed : List ℕ) × Dials request bytes printed × AppendsBeginning old new printed)
Delivers request text (Err fault.TooLong) old new =
    Keeps old new × IfSome text (λ bytes. MOST_TEXT_BYTES < length bytes)
Delivers request text (Err (fault.Calls f)) old new =
    Keeps old new × IfSome text (λ bytes. IsFaultOfCalls request bytes (fault.Calls f))
Delivers request text (Err fault.SeveralLines) old new =
    Keeps old new × IfSome text (λ bytes. IsFaultOfCalls request bytes fault.SeveralLines)
Delivers request text (Err (fault.Worn f)) old new =
    Keeps old new × IfSome text (λ bytes. IsFaultOfCalls request bytes (fault.Worn f))
Delivers request text (Err fault.LongDump) old new =
    Keeps old new
    × IfSome text (λ bytes. (rows : List LoopRow) × Sends request bytes rows
    × IsFaultOfPrinting request.manner.form rows fault.LongDump)
Delivers request text (Err f) old new = Keeps old new
