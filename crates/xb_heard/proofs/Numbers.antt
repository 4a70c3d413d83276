-- What comes of an attempt, digit by digit.
use Rattle.std.proofs.Common.{◌≡◌, ℕ, ◌<◌, List, [], ◌∷◌, ◌++◌, length, map, Bool, true, false, ◌||◌, cond, nat_lt, Option, Some, None, is_some, refl, ap, ap₂, ◌∙◌, arith, append_assoc, append-nil}
use Rattle.std.specs.Prelude.{is_none}
use Rattle.std.specs.List.{find, list_any, AllByRecursion}
use Rattle.std.proofs.lemmas.Bool.{ltb-true, le-leb, lt-leb}
use Rattle.xb_model.specs.declared.plan.Plan.{Plan}
use Rattle.xb_model.specs.declared.limits.Limits.{Limits}
use Rattle.xb_model.specs.declared.reason.Reason.TheVariants.{Mutilated}
use Rattle.xb_model.specs.declared.dialled.Dialled.{Dialled}
use Rattle.xb_model.specs.declared.dialled.Dialled.TheVariants.{Number}
use Rattle.xb_model.specs.Plans.{plan_len}
use Rattle.xb_model.specs.Signals.{breaks_in, is_bad_train}
use Rattle.xb_model.specs.declared.signal.TheConstants.{MOST_PULSES}
use Rattle.xb_model.specs.Numbers.{before_mutilated, digit_of_count, digit_of_train, is_complete, or_refused, outcome_of, reaches, without_number}
use Rattle.xb_model.proofs.Completed.{completed_number, shortest_complete-completed}
use Rattle.xb_model.proofs.Pending.{IsPending, one, reaches-pending}
use Rattle.xb_heard.specs.declared.run.PlacedRun.{PlacedRun}
use Rattle.xb_heard.specs.PlacedRuns.{run_in}
use Rattle.xb_heard.specs.Parts.{heard_placed, parts_of, times_out, without_front}
use Rattle.xb_heard.specs.declared.parts.Cut.TheVariants.{AtPauses}
use Rattle.xb_heard.specs.Digits.{DigitOfRuns, digits_of, train_in}
use Rattle.xb_heard.specs.Outcomes.{outcome_by, refused, value_of, values_of}
use Rattle.xb_heard.specs.Report.{NamesItsFault}
use Rattle.xb_heard.proofs.CutParts.{timed-alone}
use Rattle.xb_heard.proofs.Stories.{breaks-alone, names_faults, trains_of_runs}

-- what comes of an attempt of which these are the values still to come, after good digits
abbrev pub outcome_after : Plan → Bool → List ℕ → List (Option ℕ) → Dialled
outcome_after plan timed good [] = without_number false timed (length good)
outcome_after plan timed good (None ∷ values) = refused Mutilated good
outcome_after plan timed good (Some d ∷ values) =
    cond (reaches (plan_len plan (good ++ one d)) (length (good ++ one d))) (Number (good ++ one d))
    (outcome_after plan timed (good ++ one d) values)

-- the number that values complete, after good digits, or why there is none
abbrev number_or_refusal : Plan → Bool → List ℕ → List (Option ℕ) → Dialled
number_or_refusal plan timed good values =
    or_refused (completed_number plan good (before_mutilated values))
    (without_number (list_any is_none values) timed (length (good ++ before_mutilated values)))

outcome_after-is : (plan : Plan) (timed : Bool) (good : List ℕ) (values : List (Option ℕ)) → IsPending plan good
    → outcome_after plan timed good values ≡ number_or_refusal plan timed good values
outcome_after-is plan timed good [] pending = rw append-nil refl
outcome_after-is plan timed good (None ∷ values) pending = rw append-nil refl
outcome_after-is plan timed good (Some d ∷ values) pending =
    let same = reaches-pending plan good d pending in
    rw same (by (is_complete plan (good ++ one d))
    (λ e. outcome_after-is plan timed (good ++ one d) values (same ∙ e)) refl)
  where
    more : List ℕ
    more = good ++ one d

    by : (b : Bool)
        → (is_complete plan more ≡ false
        → outcome_after plan timed more values ≡ number_or_refusal plan timed more values)
        → is_complete plan more ≡ b
        → cond b (Number more) (outcome_after plan timed more values)
        ≡ or_refused (cond b (Some more) (completed_number plan more (before_mutilated values)))
        (without_number (list_any is_none values) timed (length (good ++ d ∷ before_mutilated values)))
    by true rest e = refl
    by false rest e = rw append_assoc at (rest e)

-- from the first digit on
pub outcome-from-first : (plan : Plan) (timed : Bool) (values : List (Option ℕ))
    → outcome_after plan timed [] values ≡ outcome_by plan timed values
outcome-from-first plan timed values =
    rw (shortest_complete-completed plan (before_mutilated values)) (outcome_after-is plan timed [] values refl)

-- too many breaks are no digit, whatever else is said of their train
count-spoiled : (n : ℕ) (bad : Bool) → digit_of_count n (bad || nat_lt MOST_PULSES n) ≡ digit_of_count n bad
count-spoiled n true = refl
count-spoiled n false = by (nat_lt MOST_PULSES n) refl
  where
    by : (b : Bool) → nat_lt MOST_PULSES n ≡ b → digit_of_count n (nat_lt MOST_PULSES n) ≡ digit_of_count n false
    by true e =
        let over : MOST_PULSES < n = ltb-true _ _ e in
        rw (e, le-leb 1 n (omega (arith, over)), lt-leb n MOST_PULSES over) refl
    by false e = rw e refl

-- a digit's value is that of its train
value-is : (L : Limits) (d : DigitOfRuns) → NamesItsFault L d → value_of d ≡ digit_of_train L (train_in d)
value-is L d names =
    ap₂ digit_of_count (breaks-alone d.pulses) names.named
    ∙ count-spoiled (breaks_in (train_in d)) (is_bad_train L (train_in d))

values-are : (L : Limits) (D : List DigitOfRuns) → AllByRecursion (NamesItsFault L) D
    → values_of D ≡ map (digit_of_train L) (map train_in D)
values-are L [] name = refl
values-are L (d ∷ D) name = ap₂ (λ v rest. v ∷ rest) (value-is L d name.0) (values-are L D name.1)

-- what comes of an attempt by its digits is what comes of its runs
pub outcome_of_runs : (plan : Plan) (L : Limits) (R : List PlacedRun)
    → outcome_by plan (is_some (find (times_out L) R)) (values_of (digits_of L R)) ≡ outcome_of plan L (map run_in R)
outcome_of_runs plan L R =
    let names = names_faults L (parts_of L AtPauses (without_front (heard_placed L R))) in
    ap₂ (outcome_by plan) (timed-alone L R)
    (values-are L (digits_of L R) names ∙ ap (map (digit_of_train L)) (trains_of_runs L R))
