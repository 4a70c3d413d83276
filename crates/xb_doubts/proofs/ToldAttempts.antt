-- What is told of a report's attempts is so of the record's.
use Rattle.std.proofs.Common.{◌≡◌, ◌∙◌, ◌+◌, ◌||◌, ℕ, nat_le, Bool, true, false, cond, List, [], ◌∷◌, map, length, min, refl, ap, sym, arith}
use Rattle.std.proofs.lemmas.Bool.Decides.{nat_tests}
use Rattle.std.proofs.lemmas.List.Sums.{sum_by-cons}
use Rattle.std.specs.Prelude.{◌==◌, ◌&&◌, count_by, not}
use Rattle.std.specs.List.{AllByRecursion, filter, list_any}
use Rattle.xb_model.specs.declared.limits.Limits.{Limits}
use Rattle.xb_model.specs.declared.plan.Plan.{Plan}
use Rattle.xb_model.specs.Records.{Attempt, Run, Train, attempts_of, is_break, trains_of}
use Rattle.xb_heard.specs.declared.digit.HeardDigit.{HeardDigit}
use Rattle.xb_heard.specs.declared.run.PlacedRun.{PlacedRun}
use Rattle.xb_heard.specs.Attempts.{AttemptOfRuns, attempt_alone}
use Rattle.xb_heard.specs.Digits.{digit_in, train_in}
use Rattle.xb_heard.specs.Faults.{breaks_among}
use Rattle.xb_heard.specs.PlacedRuns.{run_in}
use Rattle.xb_heard.specs.Report.{Tells, TellsTrains}
use Rattle.xb_heard.proofs.Stories.{breaks-alone}
use Rattle.xb_doubts.specs.declared.counted.Counted.{Counted}
use Rattle.xb_doubts.specs.Attempts.{begins_short, has_digit, has_number, has_trains, has_whole_digit, is_clear, is_ring, is_whole}
use Rattle.xb_doubts.specs.Counted.{counted}
use Rattle.xb_doubts.specs.Lines.{calls_in}
use Rattle.xb_doubts.specs.Told.{counted_told, is_call, trains_in}

pub some_trains : (digits : List HeardDigit)
    → not (length digits == 0) ≡ has_trains (map train_in (map digit_in digits))
some_trains [] = refl
some_trains (digit ∷ digits) =
    let some : (length (digit ∷ digits) == 0) ≡ false = grind (arith, nat_tests) in
    ap not some

pub breaks_are : (runs : List PlacedRun) → breaks_among runs ≡ length (filter is_break (map run_in runs))
breaks_are runs = breaks-alone runs

-- a test of an attempt by its trains and its runs
abbrev Test : Type 0
Test = List Train → List Run → Bool

abbrev told_by : Test → AttemptOfRuns → Bool
told_by test a = test (trains_in a) (map run_in a.runs)

abbrev so_of : Limits → Test → Attempt → Bool
so_of limits test a = test (trains_of limits a.runs) a.runs

one_told : (limits : Limits) (test : Test) (a : AttemptOfRuns) → TellsTrains limits a
    → told_by test a ≡ so_of limits test (attempt_alone a)
one_told limits test a told = ap (λ trains. test trains (map run_in a.runs)) told.trains

any_told : (limits : Limits) (test : Test) (attempts : List AttemptOfRuns)
    → AllByRecursion (TellsTrains limits) attempts
    → list_any (told_by test) attempts ≡ list_any (so_of limits test) (map attempt_alone attempts)
any_told limits test [] told = refl
any_told limits test (a ∷ attempts) told =
    ap (λ one. one || list_any (told_by test) attempts) (one_told limits test a told.0)
    ∙ ap (λ more. so_of limits test (attempt_alone a) || more) (any_told limits test attempts told.1)

count_told : (limits : Limits) (test : Test) (attempts : List AttemptOfRuns)
    → AllByRecursion (TellsTrains limits) attempts
    → count_by (told_by test) attempts ≡ count_by (so_of limits test) (map attempt_alone attempts)
count_told limits test [] told = refl
count_told limits test (a ∷ attempts) told =
    sum_by-cons (λ it. cond (told_by test it) 1 0) a attempts
    ∙ ap (λ one. cond one 1 0 + count_by (told_by test) attempts) (one_told limits test a told.0)
    ∙ ap (λ more. cond (so_of limits test (attempt_alone a)) 1 0 + more) (count_told limits test attempts told.1)
    ∙ sym (sum_by-cons (λ it. cond (so_of limits test it) 1 0) (attempt_alone a) (map attempt_alone attempts))

pub same_counted : (a b c d k l : Bool) (m n : ℕ) → a ≡ b → c ≡ d → k ≡ l → m ≡ n
    → (let left : Counted = record { dials = a; dials_whole = c; numbers = k; rings = m } in left)
    ≡ (record { dials = b; dials_whole = d; numbers = l; rings = n })
same_counted a b c d k l m n e f g h = rw (e, f, g, h) refl

-- whether the report has a call is whether the record has one
pub calls_are : (plan : Plan) (limits : Limits) (record_ : List Run) (attempts : List AttemptOfRuns)
    → Tells plan limits record_ attempts → list_any (is_call limits) attempts ≡ calls_in limits record_
calls_are plan limits record_ attempts told =
    any_told limits (λ trains runs. nat_le 3 (count_by (is_clear limits) trains)) attempts told.each
    ∙ ap (list_any (has_number limits)) told.attempts_are

-- what a report tells of a record's attempts
pub counted_is : (plan : Plan) (limits : Limits) (record_ : List Run) (attempts : List AttemptOfRuns)
    → Tells plan limits record_ attempts → counted_told limits attempts ≡ counted limits (attempts_of limits record_)
counted_is plan limits record_ attempts told =
    let are = told.attempts_are in
    same_counted _ _ _ _ _ _ _ _
    (any_told limits (λ trains runs. has_trains trains) attempts told.each ∙ ap (list_any (has_digit limits)) are)
    (any_told limits (λ trains runs. list_any (is_whole limits) trains) attempts told.each
    ∙ ap (list_any (has_whole_digit limits)) are)
    (calls_are plan limits record_ attempts told)
    (ap (λ n. min n 10)
    (count_told limits (λ trains runs. begins_short runs && not (has_trains trains)) attempts told.each
    ∙ ap (count_by (is_ring limits)) are))
