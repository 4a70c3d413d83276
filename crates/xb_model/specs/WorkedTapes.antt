-- The tapes of worked calls, by plan Seven and the standard limits.
use Rattle.std.specs.Prelude.{◌≡◌, ℕ, List, [], ◌∷◌, ◌++◌, length}
use Rattle.xb_model.specs.declared.mark.Mark.{Mark}
use Rattle.xb_model.specs.declared.mark.Mark.TheVariants.{Trunk}
use Rattle.xb_model.specs.declared.plan.Plan.TheVariants.{Seven}
use Rattle.xb_model.specs.declared.reason.Reason.TheVariants.{Mutilated, Unknown, Abandoned, TimedOut}
use Rattle.xb_model.specs.LawfulLimits.{standard_limits}
use Rattle.xb_model.specs.Rows.{LoopRow}
use Rattle.xb_model.specs.Records.{make, break}
use Rattle.xb_model.specs.Routing.{coded_route}
use Rattle.xb_model.specs.Tapes.{joined_tape, entries_of}
use Rattle.xb_model.specs.WorkedRows.{close, pulses, dials, rows_on, in_turn, three_routes, tapes, tapes_by, tone_1, tone_2, tone_3, tone_4, tone_5, tone_6, tone_7, tone_8, tone_9, tone_kp, tone_st, keyed_seven, keyed_operator, keyed_service, refused}

-- the operator is dialled on line 5
abbrev pub operator_rows : List LoopRow
operator_rows = rows_on 5 (make 500 ∷ dials (0 ∷ []))

abbrev pub OperatorCall : Type 0
OperatorCall = tapes (5 ∷ []) operator_rows ≡ (keyed_operator ∷ []) ∷ []

-- seven digits on line 7
abbrev pub seven_digits_rows : List LoopRow
seven_digits_rows = rows_on 7 (make 500 ∷ dials (2 ∷ 3 ∷ 4 ∷ 5 ∷ 6 ∷ 7 ∷ 8 ∷ []))

abbrev pub SevenDigits : Type 0
SevenDigits = tapes (7 ∷ []) seven_digits_rows ≡ (keyed_seven ∷ []) ∷ []

-- the same, a break being two rows with one of 0 ms between them
abbrev pub SplitRows : Type 0
SplitRows =
    tapes (7 ∷ []) (rows_on 7
    (make 500 ∷ break 30 ∷ make 0 ∷ break 30 ∷ make 40 ∷ break 60 ∷ make 600
    ∷ dials (3 ∷ 4 ∷ 5 ∷ 6 ∷ 7 ∷ 8 ∷ [])))
    ≡ (keyed_seven ∷ []) ∷ []

-- the rows of two lines, one of each in turn
abbrev pub TwoLinesInTurn : Type 0
TwoLinesInTurn =
    tapes (1 ∷ 2 ∷ []) (in_turn
    (rows_on 1 (make 500 ∷ dials (0 ∷ [])))
    (rows_on 2 (make 500 ∷ dials (4 ∷ 1 ∷ 1 ∷ []))))
    ≡ (keyed_operator ∷ []) ∷ (keyed_service ∷ []) ∷ []

-- a break on both sides of each limit
abbrev pub one_break : ℕ → ℕ → List LoopRow
one_break l ms = rows_on l (make 500 ∷ break ms ∷ make 600 ∷ [])

abbrev pub BreakLimits : Type 0
BreakLimits =
    tapes (11 ∷ 12 ∷ 13 ∷ 14 ∷ 15 ∷ 16 ∷ [])
    (one_break 11 19 ++ one_break 12 20 ++ one_break 13 119 ++ one_break 14 120 ++ one_break 15 299
    ++ one_break 16 300)
    ≡ (refused Mutilated 0 ∷ [])
    ∷ (refused Abandoned 1 ∷ [])
    ∷ (refused Abandoned 1 ∷ [])
    ∷ (refused Mutilated 0 ∷ [])
    ∷ (refused Mutilated 0 ∷ [])
    ∷ (refused Abandoned 0 ∷ refused Abandoned 0 ∷ [])
    ∷ []

-- a make between two breaks, on both sides of each limit
abbrev pub make_between : ℕ → ℕ → List LoopRow
make_between l ms = rows_on l (make 500 ∷ break 60 ∷ make ms ∷ break 60 ∷ make 600 ∷ [])

abbrev pub MakeLimits : Type 0
MakeLimits =
    tapes (21 ∷ 22 ∷ 23 ∷ 24 ∷ [])
    (make_between 21 14 ++ make_between 22 15 ++ make_between 23 179 ++ make_between 24 180)
    ≡ (refused Mutilated 0 ∷ [])
    ∷ (refused Abandoned 1 ∷ [])
    ∷ (refused Abandoned 1 ∷ [])
    ∷ (refused Abandoned 2 ∷ [])
    ∷ []

-- eleven pulses are no digit
abbrev pub ElevenPulses : Type 0
ElevenPulses =
    tapes (8 ∷ [])
    (rows_on 8 (make 500 ∷ dials (4 ∷ []) ++ pulses 11 600 ++ dials (1 ∷ 1 ∷ []) ++ close ∷ []))
    ≡ (refused Mutilated 1 ∷ []) ∷ []

-- a make of the time-out in an unfinished number, one ms less, and a day's after a complete one
abbrev pub sixth_digit : ℕ → ℕ → List LoopRow
sixth_digit l ms = rows_on l (make 500 ∷ dials (2 ∷ 3 ∷ 4 ∷ 5 ∷ 6 ∷ []) ++ pulses 7 ms ++ dials (8 ∷ []))

abbrev pub seventh_digit : ℕ → ℕ → List LoopRow
seventh_digit l ms = rows_on l (make 500 ∷ dials (2 ∷ 3 ∷ 4 ∷ 5 ∷ 6 ∷ 7 ∷ []) ++ pulses 8 ms)

abbrev pub TimeOutAndConversation : Type 0
TimeOutAndConversation =
    tapes (31 ∷ 32 ∷ 33 ∷ []) (sixth_digit 31 19999 ++ sixth_digit 32 20000 ++ seventh_digit 33 86400000)
    ≡ (keyed_seven ∷ []) ∷ (refused TimedOut 6 ∷ []) ∷ (keyed_seven ∷ []) ∷ []

-- the last digit ends with a pause, or not
abbrev pub LastDigitPause : Type 0
LastDigitPause =
    tapes (41 ∷ 42 ∷ []) (seventh_digit 41 179 ++ seventh_digit 42 180)
    ≡ (refused Abandoned 6 ∷ []) ∷ (keyed_seven ∷ []) ∷ []

-- rows after a close make no entry
abbrev pub ClosedLine : Type 0
ClosedLine =
    tapes (9 ∷ []) (rows_on 9 (make 500 ∷ dials (2 ∷ 3 ∷ []) ++ close ∷ make 500 ∷ dials (0 ∷ [])))
    ≡ (refused Abandoned 2 ∷ []) ∷ []

-- a code that is routed, and two numbers that no code covers
abbrev pub UnknownCodes : Type 0
UnknownCodes =
    tapes (1 ∷ 2 ∷ 3 ∷ [])
    (rows_on 1 (make 500 ∷ dials (4 ∷ 1 ∷ 1 ∷ []))
    ++ rows_on 2 (make 500 ∷ dials (6 ∷ 1 ∷ 1 ∷ []))
    ++ rows_on 3 (make 500 ∷ dials (5 ∷ 5 ∷ 5 ∷ 1 ∷ 2 ∷ 3 ∷ 4 ∷ [])))
    ≡ (keyed_service ∷ []) ∷ (refused Unknown 3 ∷ []) ∷ (refused Unknown 7 ∷ []) ∷ []

-- a second number is heard only after a release
abbrev pub second_call_rows : List LoopRow
second_call_rows = rows_on 3 (make 500 ∷ dials (0 ∷ 9 ∷ []) ++ break 400 ∷ make 500 ∷ dials (4 ∷ 1 ∷ 1 ∷ []))

abbrev pub SecondCall : Type 0
SecondCall = tapes (3 ∷ []) second_call_rows ≡ (keyed_operator ∷ keyed_service ∷ []) ∷ []

-- little records, and no routes
abbrev pub ShortRecords : Type 0
ShortRecords =
    tapes_by [] (1 ∷ 2 ∷ 3 ∷ 4 ∷ [])
    (rows_on 1 (break 1000 ∷ [])
    ++ rows_on 2 (make 0 ∷ [])
    ++ rows_on 3 (make 1 ∷ [])
    ++ rows_on 4 (make 500 ∷ break 10 ∷ make 25000 ∷ dials (0 ∷ [])))
    ≡ [] ∷ [] ∷ (refused Abandoned 0 ∷ []) ∷ (refused Mutilated 0 ∷ []) ∷ []

-- a prefix of eight digits before seven
abbrev pub longest_entry : List Mark
longest_entry =
    Trunk 9999 ∷ tone_kp
    ∷ tone_1 ∷ tone_2 ∷ tone_3 ∷ tone_4 ∷ tone_5 ∷ tone_6 ∷ tone_7 ∷ tone_8
    ∷ tone_9 ∷ tone_9 ∷ tone_9 ∷ tone_9 ∷ tone_9 ∷ tone_9 ∷ tone_9
    ∷ tone_st ∷ []

abbrev pub LongestKeying : Type 0
LongestKeying =
    (tapes_by (coded_route (9 ∷ 9 ∷ 9 ∷ []) 9999 0 (1 ∷ 2 ∷ 3 ∷ 4 ∷ 5 ∷ 6 ∷ 7 ∷ 8 ∷ []) ∷ []) (20 ∷ [])
    (rows_on 20 (make 500 ∷ dials (9 ∷ 9 ∷ 9 ∷ 9 ∷ 9 ∷ 9 ∷ 9 ∷ [])))
    ≡ (longest_entry ∷ []) ∷ [])
    × (length longest_entry ≡ 18)

-- the entries of a joined tape, and of marks of which the last end no entry
pub record EntriesOfATape : Type 0 where
  pub two_calls :
      entries_of (joined_tape Seven standard_limits three_routes 3 second_call_rows)
      ≡ keyed_operator ∷ keyed_service ∷ []
  pub unfinished :
      entries_of (refused Mutilated 1 ++ keyed_operator ++ Trunk 3 ∷ tone_kp ∷ tone_4 ∷ [])
      ≡ refused Mutilated 1 ∷ keyed_operator ∷ []
  pub none : entries_of [] ≡ []
