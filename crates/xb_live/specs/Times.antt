-- How long a line's rows last, when its last attempt began, and what was dialled in it.
use Rattle.std.specs.Prelude.{ℕ, Bool, ◌^◌, ◌-◌, min, List, [], ◌∷◌, length, map, nat_lt, sum_by, Option, Some, None}
use Rattle.std.specs.List.{filter}
use Rattle.xb_model.specs.declared.limits.Limits.{Limits}
use Rattle.xb_model.specs.declared.plan.Plan.{Plan}
use Rattle.xb_model.specs.Numbers.{good_digits, number_of}
use Rattle.xb_model.specs.Records.{Attempt, Run, attempts_of, record_of, rows_of}
use Rattle.xb_model.specs.Rows.{LoopRow}

-- how many ms the rows of line l last; it stops at 2^64 - 1, which are 584 million years
abbrev pub ms_on : ℕ → List LoopRow → ℕ
ms_on l rows = min (sum_by (λ (row : LoopRow). row.ms) (rows_of l rows)) (2 ^ 64 - 1)

-- the attempts of line l
abbrev pub attempts_on : Limits → ℕ → List LoopRow → List Attempt
attempts_on limits l rows = attempts_of limits (record_of l rows)

-- the last item, or this one where there is none
abbrev pub last_or : {A : Type 0} → A → List A → A
last_or before [] = before
last_or before (item ∷ items) = last_or item items

-- the beginnings of rows, shortest first
abbrev pub beginnings : List LoopRow → List (List LoopRow)
beginnings [] = [] ∷ []
beginnings (row ∷ rows) = [] ∷ map (λ front. row ∷ front) (beginnings rows)

-- line l has one attempt more, or several, in these rows than in their beginning
abbrev pub has_more : Limits → ℕ → List LoopRow → List LoopRow → Bool
has_more limits l rows front =
    nat_lt (length (attempts_on limits l front)) (length (attempts_on limits l rows))

-- the rows before the one with which the last attempt of line l begins: the longest beginning in which it has
-- fewer attempts
abbrev pub before_last : Limits → ℕ → List LoopRow → List LoopRow
before_last limits l rows = last_or [] (filter (has_more limits l rows) (beginnings rows))

-- how many ms these rows last on the line: when its last attempt began
abbrev pub began_on : Limits → ℕ → List LoopRow → ℕ
began_on limits l rows = ms_on l (before_last limits l rows)

abbrev pub or_else : Option (List ℕ) → List ℕ → List ℕ
or_else (Some number) digits = number
or_else None digits = digits

-- what is dialled in an attempt: its number, or where there is none its good digits
abbrev pub dialled_in : Plan → Limits → List Run → List ℕ
dialled_in plan limits runs = or_else (number_of plan limits runs) (good_digits limits runs)

-- what was dialled in the last of some attempts
abbrev pub dialled_last : Plan → Limits → List Attempt → List ℕ
dialled_last plan limits attempts = last_or [] (map (λ attempt. dialled_in plan limits attempt.runs) attempts)

-- what was dialled in the last attempt of line l
abbrev pub dialled_on : Plan → Limits → ℕ → List LoopRow → List ℕ
dialled_on plan limits l rows = dialled_last plan limits (attempts_on limits l rows)
