-- Worked examples in few words: the rows of a line, a table of three routes, and the marks of a
-- keying, typed from the table of pairs.
use Rattle.std.specs.Prelude.{ℕ, zero, suc, List, [], ◌∷◌, map, flat_map}
use Rattle.xb_model.specs.declared.row.Contact.TheVariants.{Close}
use Rattle.xb_model.specs.declared.limits.Limits.{Limits}
use Rattle.xb_model.specs.declared.plan.Plan.{Plan}
use Rattle.xb_model.specs.declared.plan.Plan.TheVariants.{Seven}
use Rattle.xb_model.specs.declared.key.Key.TheVariants.{Digit, Kp, St}
use Rattle.xb_model.specs.declared.mark.Mark.{Mark}
use Rattle.xb_model.specs.declared.mark.Mark.TheVariants.{Trunk, Tone, Refused}
use Rattle.xb_model.specs.declared.reason.Reason.{Reason}
use Rattle.xb_model.specs.LawfulLimits.{standard_limits}
use Rattle.xb_model.specs.Rows.{LoopRow, row_of}
use Rattle.xb_model.specs.Records.{Run, run_of, make, break}
use Rattle.xb_model.specs.MfPairs.{pair}
use Rattle.xb_model.specs.Routing.{CodedRoute, coded_route}
use Rattle.xb_model.specs.Tapes.{tape_of}

-- the end of a record
abbrev pub close : Run
close = run_of Close 0

-- n breaks of 60 ms, with makes of 40 ms between them and one of `last` ms after them
unfoldable pub pulses : ℕ → ℕ → List Run
pulses zero last = []
pulses (suc zero) last = break 60 ∷ make last ∷ []
pulses (suc (suc n)) last = break 60 ∷ make 40 ∷ pulses (suc n) last

-- the pulses of a digit, and a make of 600 ms
unfoldable pub dial : ℕ → List Run
unfolding pulses
dial zero = pulses 10 600
dial (suc d) = pulses (suc d) 600

abbrev pub dials : List ℕ → List Run
dials digits = flat_map dial digits

-- as rows of line l
abbrev pub rows_on : ℕ → List Run → List LoopRow
rows_on l runs = map (λ run. row_of l run.contact run.ms) runs

-- one row of each in turn, then the rest of the longer
abbrev pub in_turn : List LoopRow → List LoopRow → List LoopRow
in_turn [] ys = ys
in_turn (x ∷ xs) [] = x ∷ xs
in_turn (x ∷ xs) (y ∷ ys) = x ∷ y ∷ in_turn xs ys

-- the routes of the worked examples
abbrev pub three_routes : List CodedRoute
three_routes =
    coded_route (2 ∷ 3 ∷ 4 ∷ []) 17 3 (5 ∷ 6 ∷ [])
    ∷ coded_route (4 ∷ 1 ∷ 1 ∷ []) 3 0 []
    ∷ coded_route (0 ∷ []) 1 0 []
    ∷ []

-- the tapes of some lines
abbrev pub tapes_under : Plan → Limits → List CodedRoute → List ℕ → List LoopRow → List (List (List Mark))
tapes_under plan limits routes lines rows = map (λ l. tape_of plan limits routes l rows) lines

-- those by some routes, plan Seven and the standard limits
abbrev pub tapes_by : List CodedRoute → List ℕ → List LoopRow → List (List (List Mark))
tapes_by routes lines rows = tapes_under Seven standard_limits routes lines rows

abbrev pub tapes : List ℕ → List LoopRow → List (List (List Mark))
tapes lines rows = tapes_by three_routes lines rows

-- the marks of a keying

abbrev pub tone_0 : Mark
tone_0 = Tone (Digit 0) (pair 1300 1500)

abbrev pub tone_1 : Mark
tone_1 = Tone (Digit 1) (pair 700 900)

abbrev pub tone_2 : Mark
tone_2 = Tone (Digit 2) (pair 700 1100)

abbrev pub tone_3 : Mark
tone_3 = Tone (Digit 3) (pair 900 1100)

abbrev pub tone_4 : Mark
tone_4 = Tone (Digit 4) (pair 700 1300)

abbrev pub tone_5 : Mark
tone_5 = Tone (Digit 5) (pair 900 1300)

abbrev pub tone_6 : Mark
tone_6 = Tone (Digit 6) (pair 1100 1300)

abbrev pub tone_7 : Mark
tone_7 = Tone (Digit 7) (pair 700 1500)

abbrev pub tone_8 : Mark
tone_8 = Tone (Digit 8) (pair 900 1500)

abbrev pub tone_9 : Mark
tone_9 = Tone (Digit 9) (pair 1100 1500)

abbrev pub tone_kp : Mark
tone_kp = Tone Kp (pair 1100 1700)

abbrev pub tone_st : Mark
tone_st = Tone St (pair 1500 1700)

-- the keying of 234 5678 by the three routes, that of 0, and that of 411
abbrev pub keyed_seven : List Mark
keyed_seven = Trunk 17 ∷ tone_kp ∷ tone_5 ∷ tone_6 ∷ tone_5 ∷ tone_6 ∷ tone_7 ∷ tone_8 ∷ tone_st ∷ []

abbrev pub keyed_operator : List Mark
keyed_operator = Trunk 1 ∷ tone_kp ∷ tone_0 ∷ tone_st ∷ []

abbrev pub keyed_service : List Mark
keyed_service = Trunk 3 ∷ tone_kp ∷ tone_4 ∷ tone_1 ∷ tone_1 ∷ tone_st ∷ []

-- a refused entry
abbrev pub refused : Reason → ℕ → List Mark
refused reason heard = Refused reason heard ∷ []
