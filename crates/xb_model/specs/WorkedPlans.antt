-- The tapes of calls by plan Ten, and by limits of their own.
use Rattle.std.specs.Prelude.{◌≡◌, List, [], ◌∷◌, ◌++◌, length}
use Rattle.xb_model.specs.declared.limits.Limits.{Limits}
use Rattle.xb_model.specs.declared.mark.Mark.{Mark}
use Rattle.xb_model.specs.declared.mark.Mark.TheVariants.{Trunk}
use Rattle.xb_model.specs.declared.plan.Plan.TheVariants.{Seven, Ten}
use Rattle.xb_model.specs.declared.reason.Reason.TheVariants.{Abandoned}
use Rattle.xb_model.specs.LawfulLimits.{standard_limits}
use Rattle.xb_model.specs.Records.{make, break}
use Rattle.xb_model.specs.Routing.{CodedRoute, coded_route}
use Rattle.xb_model.specs.Rows.{LoopRow}
use Rattle.xb_model.specs.WorkedRoutes.{short_route, long_route}
use Rattle.xb_model.specs.WorkedRows.{dials, rows_on, three_routes, tapes_under, tone_1, tone_2, tone_3, tone_4, tone_5, tone_6, tone_7, tone_8, tone_9, tone_kp, tone_st, refused}

-- two numbers of ten digits on line 8: one that both codes cover, and one that only the shorter does
abbrev pub ten_digits_rows : List LoopRow
ten_digits_rows =
    rows_on 8
    (make 500 ∷ dials (2 ∷ 1 ∷ 2 ∷ 5 ∷ 5 ∷ 5 ∷ 1 ∷ 2 ∷ 3 ∷ 4 ∷ [])
    ++ break 400 ∷ make 500 ∷ dials (2 ∷ 1 ∷ 2 ∷ 6 ∷ 6 ∷ 6 ∷ 1 ∷ 2 ∷ 3 ∷ 4 ∷ []))

abbrev pub keyed_by_six : List Mark
keyed_by_six =
    Trunk 40 ∷ tone_kp ∷ tone_5 ∷ tone_5 ∷ tone_5 ∷ tone_1 ∷ tone_2 ∷ tone_3 ∷ tone_4 ∷ tone_st ∷ []

abbrev pub keyed_by_three : List Mark
keyed_by_three =
    Trunk 41 ∷ tone_kp ∷ tone_2 ∷ tone_1 ∷ tone_2 ∷ tone_6 ∷ tone_6 ∷ tone_6 ∷ tone_1 ∷ tone_2 ∷ tone_3
    ∷ tone_4 ∷ tone_st ∷ []

abbrev pub GivesTenDigits : List CodedRoute → Type 0
GivesTenDigits routes =
    tapes_under Ten standard_limits routes (8 ∷ []) ten_digits_rows
    ≡ (keyed_by_six ∷ keyed_by_three ∷ []) ∷ []

-- whichever of the two routes stands first
pub record TenDigits : Type 0 where
  pub longer_first : GivesTenDigits (long_route ∷ short_route ∷ [])
  pub shorter_first : GivesTenDigits (short_route ∷ long_route ∷ [])

-- a prefix of eight digits before ten
abbrev pub longest_of_ten : List Mark
longest_of_ten =
    Trunk 9999 ∷ tone_kp
    ∷ tone_1 ∷ tone_2 ∷ tone_3 ∷ tone_4 ∷ tone_5 ∷ tone_6 ∷ tone_7 ∷ tone_8
    ∷ tone_2 ∷ tone_1 ∷ tone_2 ∷ tone_9 ∷ tone_9 ∷ tone_9 ∷ tone_9 ∷ tone_9 ∷ tone_9 ∷ tone_9
    ∷ tone_st ∷ []

abbrev pub LongestKeyingOfTen : Type 0
LongestKeyingOfTen =
    (tapes_under Ten standard_limits
    (coded_route (2 ∷ 1 ∷ 2 ∷ []) 9999 0 (1 ∷ 2 ∷ 3 ∷ 4 ∷ 5 ∷ 6 ∷ 7 ∷ 8 ∷ []) ∷ []) (20 ∷ [])
    (rows_on 20 (make 500 ∷ dials (2 ∷ 1 ∷ 2 ∷ 9 ∷ 9 ∷ 9 ∷ 9 ∷ 9 ∷ 9 ∷ 9 ∷ [])))
    ≡ (longest_of_ten ∷ []) ∷ [])
    × (length longest_of_ten ≡ 21)

-- two attempts that are abandoned at once
abbrev pub both_abandoned : List (List (List Mark))
both_abandoned = (refused Abandoned 0 ∷ refused Abandoned 0 ∷ []) ∷ []

abbrev pub OnLine6 : Limits → List LoopRow → List (List (List Mark)) → Type 0
OnLine6 limits rows tapes = tapes_under Seven limits three_routes (6 ∷ []) rows ≡ tapes

-- a release of 250 ms; makes and pauses of 1 ms; and the longest release
pub record OwnLimits : Type 0 where
  pub short_release :
      OnLine6 (record standard_limits { release = 250 })
      (rows_on 6 (make 500 ∷ break 260 ∷ make 600 ∷ [])) both_abandoned
  pub short_makes :
      OnLine6 (record standard_limits { make_min = 1; pause = 1 })
      (rows_on 6 (make 500 ∷ break 60 ∷ make 1 ∷ break 60 ∷ make 1 ∷ []))
      ((refused Abandoned 2 ∷ []) ∷ [])
  pub longest_release :
      OnLine6 (record standard_limits { release = 1000000 })
      (rows_on 6
      (make 500
      ∷ break 100000 ∷ break 100000 ∷ break 100000 ∷ break 100000 ∷ break 100000
      ∷ break 100000 ∷ break 100000 ∷ break 100000 ∷ break 100000 ∷ break 100000
      ∷ make 500 ∷ []))
      both_abandoned
