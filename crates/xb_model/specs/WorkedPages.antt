-- The pages of worked calls, byte by byte.
use Rattle.std.specs.Prelude.{◌≡◌, List, [], ◌∷◌, ◌++◌, map, codes}
use Rattle.xb_model.specs.declared.mark.Mark.{Mark}
use Rattle.xb_model.specs.declared.mark.Mark.TheVariants.{Trunk}
use Rattle.xb_model.specs.declared.plan.Plan.TheVariants.{Seven}
use Rattle.xb_model.specs.declared.reason.Reason.TheVariants.{Mutilated, Unknown, Abandoned, TimedOut}
use Rattle.xb_model.specs.LawfulLimits.{standard_limits}
use Rattle.xb_model.specs.Rows.{LoopRow}
use Rattle.xb_model.specs.Tapes.{joined_tape}
use Rattle.xb_model.specs.Page.{page_text}
use Rattle.xb_model.specs.WorkedRows.{three_routes, tone_kp, tone_5, refused}
use Rattle.xb_model.specs.WorkedTapes.{operator_rows, seven_digits_rows}

-- the tapes of lines 0 to 7, the only ones with rows
abbrev pub first_tapes : List LoopRow → List (List Mark)
first_tapes rows =
    map (λ l. joined_tape Seven standard_limits three_routes l rows) (0 ∷ 1 ∷ 2 ∷ 3 ∷ 4 ∷ 5 ∷ 6 ∷ 7 ∷ [])

abbrev pub PageOfOperatorCall : Type 0
PageOfOperatorCall =
    page_text (first_tapes operator_rows)
    ≡ codes "0005 1 KEYED 0001 KP:1100+1700 0:1300+1500 ST:1500+1700\nKEYED 1 REFUSED 0\n"

abbrev pub PageOfSevenDigits : Type 0
PageOfSevenDigits =
    page_text (first_tapes seven_digits_rows)
    ≡ codes "0007 1 KEYED 0017 KP:1100+1700 5:900+1300 6:1100+1300 5:900+1300 6:1100+1300 7:700+1500 8:900+1500 ST:1500+1700\nKEYED 1 REFUSED 0\n"

-- no entries, and marks of which none ends an entry
abbrev pub PageOfNoRows : Type 0
PageOfNoRows = page_text (first_tapes []) ≡ codes "KEYED 0 REFUSED 0\n"

abbrev pub PageOfUnfinished : Type 0
PageOfUnfinished = page_text ((Trunk 17 ∷ tone_kp ∷ tone_5 ∷ []) ∷ []) ≡ codes "KEYED 0 REFUSED 0\n"

-- each reason, and entries of a line counted from 1
abbrev pub PageOfRefusals : Type 0
PageOfRefusals =
    page_text
    (refused Mutilated 1 ∷ [] ∷ (refused Abandoned 2 ++ refused Unknown 7) ∷ refused TimedOut 6 ∷ [])
    ≡ (codes "0000 1 REFUSED MUTILATED 1\n0002 1 REFUSED ABANDONED 2\n0002 2 REFUSED UNKNOWN 7\n"
    ++ codes "0003 1 REFUSED TIMEDOUT 6\nKEYED 0 REFUSED 4\n")
