-- Worked calls, at 10 pulses a second.
use Rattle.std.specs.Prelude.{◌≡◌, ℕ, List, [], ◌∷◌, codes, Some, None, Ok, Err}
use Rattle.xb_model.specs.declared.dialled.Dialled.TheVariants.{Number}
use Rattle.xb_model.specs.declared.plan.Plan.TheVariants.{Seven}
use Rattle.xb_model.specs.LawfulLimits.{standard_limits}
use Rattle.xb_model.specs.Numbers.{outcomes_of}
use Rattle.xb_model.specs.Records.{make, break, record_of}
use Rattle.xb_model.specs.WorkedRows.{dials}
use Rattle.xb_calls.specs.declared.fault.CallFault.TheVariants as fault
use Rattle.xb_calls.specs.Calls.{call_of}
use Rattle.xb_calls.specs.CallTexts.{calls_of_text}
use Rattle.xb_calls.specs.Dialling.{in_turn, joined_lists, line_rows, line_runs}
use Rattle.xb_calls.specs.Speeds.{ten_pulses_a_second}

-- two calls of one line, 21 and 0, as makes and breaks
abbrev pub RowsOfCalls : Type 0
RowsOfCalls =
    line_runs ten_pulses_a_second ((2 ∷ 1 ∷ []) ∷ (0 ∷ []) ∷ [])
    ≡ make 500 ∷ break 60 ∷ make 40 ∷ break 60 ∷ make 600 ∷ break 60 ∷ make 600 ∷ break 400
    ∷ make 500 ∷ dials (0 ∷ [])

-- they are heard: 411 and 0 on line 5, and nothing on line 6
abbrev pub NumbersOfCalls : Type 0
NumbersOfCalls =
    let calls = call_of 5 (4 ∷ 1 ∷ 1 ∷ []) ∷ call_of 5 (0 ∷ []) ∷ [] in
    (outcomes_of Seven standard_limits (record_of 5 (line_rows ten_pulses_a_second calls 5))
    ≡ Number (4 ∷ 1 ∷ 1 ∷ []) ∷ Number (0 ∷ []) ∷ [])
    × (line_rows ten_pulses_a_second calls 6 ≡ [])

-- both orders of three lists
abbrev pub BothOrders : Type 0
BothOrders =
    let lists : List (List ℕ) = (1 ∷ 2 ∷ 3 ∷ []) ∷ [] ∷ (4 ∷ 5 ∷ []) ∷ [] in
    (joined_lists lists ≡ 1 ∷ 2 ∷ 3 ∷ 4 ∷ 5 ∷ []) × (in_turn lists ≡ 1 ∷ 4 ∷ 2 ∷ 5 ∷ 3 ∷ [])

-- texts of calls, and the first fault of each kind
abbrev pub CallsOfTexts : Type 0
CallsOfTexts =
    (calls_of_text (Some Seven) (codes "# calls\n\n7 234-5678\r\n0009 4 1 1\n9 0")
    ≡ Ok (call_of 7 (2 ∷ 3 ∷ 4 ∷ 5 ∷ 6 ∷ 7 ∷ 8 ∷ []) ∷ call_of 9 (4 ∷ 1 ∷ 1 ∷ []) ∷ call_of 9 (0 ∷ []) ∷ []))
    × (calls_of_text (Some Seven) (codes "7 0\n10000 0\n") ≡ Err (fault.Line 2 (codes "10000")))
    × (calls_of_text (Some Seven) (0xEF ∷ 0xBB ∷ 0xBF ∷ codes "7 0") ≡ Ok (call_of 7 (0 ∷ []) ∷ []))
    × (calls_of_text (Some Seven) (codes " 7\t0 \n \t\n # none\n") ≡ Ok (call_of 7 (0 ∷ []) ∷ []))
    × (calls_of_text (Some Seven) (codes "7,0") ≡ Err (fault.Line 1 (codes "7,0")))
    × (calls_of_text (Some Seven) (codes "7\r 0") ≡ Err (fault.Line 1 (codes "7?")))
    × (calls_of_text (Some Seven) (codes "7 2x4") ≡ Err (fault.Digit 1 (record { place = 4; byte = 120 })))
    × (calls_of_text (Some Seven) (codes "7") ≡ Err (fault.NoDigits 1))
    × (calls_of_text (Some Seven) (codes "7 234-567") ≡ Err (fault.Unfinished 1))
    × (calls_of_text (Some Seven) (codes "7 41") ≡ Err (fault.Unfinished 1))
    × (calls_of_text (Some Seven) (codes "7 00") ≡ Err (fault.GoesOn 1))
    × (calls_of_text None (codes "7 00\n7 41") ≡ Ok (call_of 7 (0 ∷ 0 ∷ []) ∷ call_of 7 (4 ∷ 1 ∷ []) ∷ []))
