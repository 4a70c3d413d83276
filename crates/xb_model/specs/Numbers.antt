-- The digit of a train, the number of an attempt, and what comes of the attempt (rotary dial; the
-- limits and the order of the reasons are the profile's own).
use Rattle.std.specs.Prelude.{ℕ, ◌%◌, List, [], ◌∷◌, map, length, Bool, false, not, ◌&&◌, if◌then◌else◌, nat_le, ◌==◌, Option, Some, None, is_none}
use Rattle.std.specs.List.{find, list_any}
use Rattle.xb_model.specs.declared.limits.Limits.{Limits}
use Rattle.xb_model.specs.declared.plan.Plan.{Plan}
use Rattle.xb_model.specs.declared.dialled.Dialled.{Dialled}
use Rattle.xb_model.specs.declared.dialled.Dialled.TheVariants.{Number, Refused}
use Rattle.xb_model.specs.declared.reason.Reason.TheVariants.{Mutilated, Abandoned, TimedOut}
use Rattle.xb_model.specs.declared.signal.TheConstants.{MOST_PULSES}
use Rattle.xb_model.specs.Plans.{plan_len}
use Rattle.xb_model.specs.Records.{Run, Train, trains_of, is_timed, attempts_of}
use Rattle.xb_model.specs.Signals.{breaks_in, is_bad_train}

-- the digit of so many breaks, 10 being 0; none where the train is bad, or there are not 1 to 10
abbrev pub digit_of_count : ℕ → Bool → Option ℕ
digit_of_count n bad = if not bad && (nat_le 1 n && nat_le n MOST_PULSES) then Some (n % MOST_PULSES)
    else None

-- the digit of a train; none where the train is mutilated
abbrev pub digit_of_train : Limits → Train → Option ℕ
digit_of_train limits train = digit_of_count (breaks_in train) (is_bad_train limits train)

-- the digit of each train of an attempt, in order
abbrev pub train_digits : Limits → List Run → List (Option ℕ)
train_digits limits attempt = map (digit_of_train limits) (trains_of limits attempt)

-- the digits before the first mutilated one
abbrev pub before_mutilated : List (Option ℕ) → List ℕ
before_mutilated [] = []
before_mutilated (None ∷ digits) = []
before_mutilated (Some d ∷ digits) = d ∷ before_mutilated digits

-- the good digits of an attempt
abbrev pub good_digits : Limits → List Run → List ℕ
good_digits limits attempt = before_mutilated (train_digits limits attempt)

abbrev pub has_length : Option ℕ → ℕ → Bool
has_length None n = false
has_length (Some len) n = len == n

-- n digits are as many as the number has
abbrev pub reaches : Option ℕ → ℕ → Bool
reaches None n = false
reaches (Some len) n = nat_le len n

-- the digits are a complete number
abbrev pub is_complete : Plan → List ℕ → Bool
is_complete plan digits = has_length (plan_len plan digits) (length digits)

-- the fronts of a list, shortest first
abbrev pub fronts : List ℕ → List (List ℕ)
fronts [] = [] ∷ []
fronts (d ∷ digits) = [] ∷ map (λ front. d ∷ front) (fronts digits)

-- the shortest front that is a complete number
abbrev pub shortest_complete : Plan → List ℕ → Option (List ℕ)
shortest_complete plan digits = find (is_complete plan) (fronts digits)

-- the number of an attempt
abbrev pub number_of : Plan → Limits → List Run → Option (List ℕ)
number_of plan limits attempt = shortest_complete plan (good_digits limits attempt)

-- why there is no number: mutilated, else timed out, else abandoned
abbrev pub without_number : Bool → Bool → ℕ → Dialled
without_number mutilated timed count =
    Refused (if mutilated then Mutilated else (if timed then TimedOut else Abandoned)) count

abbrev pub or_refused : Option (List ℕ) → Dialled → Dialled
or_refused (Some digits) refusal = Number digits
or_refused None refusal = refusal

-- what comes of an attempt: its number, or why there is none, with the count of good digits
abbrev pub outcome_of : Plan → Limits → List Run → Dialled
outcome_of plan limits attempt =
    or_refused (number_of plan limits attempt)
    (without_number (list_any is_none (train_digits limits attempt)) (is_timed limits attempt)
    (length (good_digits limits attempt)))

-- one outcome for each attempt
abbrev pub outcomes_of : Plan → Limits → List Run → List Dialled
outcomes_of plan limits record_ = map (λ attempt. outcome_of plan limits attempt.runs)
    (attempts_of limits record_)
