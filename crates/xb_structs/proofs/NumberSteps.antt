-- The number that bytes complete, digit by digit.
use Rattle.std.proofs.Common.{◌≡◌, ℕ, List, [], ◌∷◌, ◌++◌, ◌∙◌, length, Bool, true, false, cond, Option, Some, None, Result, Ok, Err, refl}
use Rattle.std.specs.Prelude.{is_none}
use Rattle.std.specs.List.{list_any}
use Rattle.xb_model.specs.declared.plan.Plan.{Plan}
use Rattle.xb_model.specs.Plans.{plan_len}
use Rattle.xb_model.specs.Numbers.{before_mutilated, is_complete, reaches}
use Rattle.xb_model.proofs.Completed.{completed_number, shortest_complete-completed}
use Rattle.xb_model.proofs.Pending.{IsPending, one, reaches-pending}
use Rattle.xb_structs.specs.declared.number.NotRouted.{NotRouted}
use Rattle.xb_structs.specs.declared.number.NotRouted.TheVariants as why
use Rattle.xb_structs.specs.Numbers.{number_of_digits, or_none, without_number}

-- the number that digits still to come complete, after good ones, or why there is none
abbrev pub number_after : Plan → List ℕ → List (Option ℕ) → Result (List ℕ) NotRouted
number_after plan good [] = Err why.Incomplete
number_after plan good (None ∷ digits) = Err why.Digit
number_after plan good (Some d ∷ digits) =
    cond (reaches (plan_len plan (good ++ one d)) (length (good ++ one d))) (Ok (good ++ one d))
    (number_after plan (good ++ one d) digits)

abbrev completed_after : Plan → List ℕ → List (Option ℕ) → Result (List ℕ) NotRouted
completed_after plan good digits =
    or_none (completed_number plan good (before_mutilated digits)) (without_number (list_any is_none digits))

number_after-is : (plan : Plan) (good : List ℕ) (digits : List (Option ℕ)) → IsPending plan good
    → number_after plan good digits ≡ completed_after plan good digits
number_after-is plan good [] pending = refl
number_after-is plan good (None ∷ digits) pending = refl
number_after-is plan good (Some d ∷ digits) pending =
    let same = reaches-pending plan good d pending in
    rw same (by (is_complete plan (good ++ one d)) (λ e. number_after-is plan (good ++ one d) digits (same ∙ e)) refl)
  where
    more : List ℕ
    more = good ++ one d

    by : (b : Bool) → (is_complete plan more ≡ false → number_after plan more digits ≡ completed_after plan more digits)
        → is_complete plan more ≡ b
        → cond b (Ok more) (number_after plan more digits)
        ≡ or_none (cond b (Some more) (completed_number plan more (before_mutilated digits))) (without_number (list_any is_none digits))
    by true rest e = refl
    by false rest e = rest e

-- from the first digit on
pub number-from-first : (plan : Plan) (digits : List (Option ℕ)) → number_after plan [] digits ≡ number_of_digits plan digits
number-from-first plan digits = rw (shortest_complete-completed plan (before_mutilated digits)) (number_after-is plan [] digits refl)
