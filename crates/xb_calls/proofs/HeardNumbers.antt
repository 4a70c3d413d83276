-- The numbers that are dialled are heard.
use Rattle.std.proofs.Common.{◌≡◌, ℕ, ◌<◌, Bool, true, false, List, [], ◌∷◌, ◌++◌, map, Some, refl, ap, ◌∙◌}
use Rattle.std.specs.Prelude.{◌==◌}
use Rattle.std.specs.List.{AllByRecursion, filter, flat_map}
use Rattle.std.proofs.lemmas.List.Elements.{All-head, All-tail}
use Rattle.xb_model.specs.declared.digit.TheConstants.{DIGITS}
use Rattle.xb_model.specs.declared.dialled.Dialled.{Dialled}
use Rattle.xb_model.specs.declared.dialled.Dialled.TheVariants.{Number}
use Rattle.xb_model.specs.declared.limits.Limits.{Limits}
use Rattle.xb_model.specs.declared.line.TheConstants.{LINES}
use Rattle.xb_model.specs.declared.plan.Plan.{Plan}
use Rattle.xb_model.specs.Keyings.{marks_of}
use Rattle.xb_model.specs.LawfulLimits.{IsLawful}
use Rattle.xb_model.specs.Lines.{lines_below}
use Rattle.xb_model.specs.Numbers.{before_mutilated, digit_of_train, good_digits, is_complete, number_of, outcome_of, outcomes_of, shortest_complete}
use Rattle.xb_model.specs.Records.{Attempt, cut_at_pauses, has_runs, pieces_of, record_up_to_close, without_first}
use Rattle.xb_model.specs.Routing.{CodedRoute, order_of}
use Rattle.xb_model.specs.Rows.{LoopRow}
use Rattle.xb_model.specs.Tapes.{joined_tape}
use Rattle.xb_calls.specs.declared.speed.Speed.{Speed}
use Rattle.xb_calls.specs.Speeds.{Fits}
use Rattle.xb_calls.specs.Calls.{AreCalls, AreDigits, DialledCall, IsCall}
use Rattle.xb_calls.specs.Dialling.{call_runs, line_runs, numbers_on, pulse_count}
use Rattle.xb_calls.specs.Heard.{AreComplete, AreDialled, AreHeard, AreKeyed, AreTaped, DialledIsHeard, entry_of}
use Rattle.xb_calls.proofs.CompleteNumbers.{complete_is_shortest}
use Rattle.xb_calls.proofs.DialledTrains.{cut-number, digit-train, train_of}
use Rattle.xb_calls.proofs.DialledRuns.{heard-call, pieces-call, pieces-hung_up, record-line, runs-line}

-- the digits of the trains of a number
digits-trains : (limits : Limits) (speed : Speed) → Fits limits speed → (number : List ℕ) → AreDigits number
    → before_mutilated (map (digit_of_train limits)
    (map (λ digit. train_of speed (pulse_count digit)) number)) ≡ number
digits-trains limits speed fits [] below = refl
digits-trains limits speed fits (digit ∷ number) below =
    let first = All-head (λ d. d < DIGITS) digit number below in
    let more = All-tail (λ d. d < DIGITS) digit number below in
    rw (digit-train limits speed fits digit first)
    (ap (λ digits. digit ∷ digits) (digits-trains limits speed fits number more))

-- the good digits of a call are the number
digits-call : (limits : Limits) (speed : Speed) → IsLawful limits → Fits limits speed → (number : List ℕ)
    → AreDigits number
    → good_digits limits (call_runs speed number) ≡ number
digits-call limits speed lawful fits number below =
    ap (λ runs. before_mutilated (map (digit_of_train limits) (cut_at_pauses limits (without_first runs))))
    (heard-call limits speed lawful fits number)
    ∙ ap (λ trains. before_mutilated (map (digit_of_train limits) trains))
    (cut-number limits speed fits number)
    ∙ digits-trains limits speed fits number below

-- a number that may be dialled: digits that are complete by the plan
abbrev IsDialled : Plan → List ℕ → Type 0
IsDialled plan number = AreDigits number × (is_complete plan number ≡ true)

-- what comes of a call is its number
outcome-call : (plan : Plan) (limits : Limits) (speed : Speed) → IsLawful limits → Fits limits speed
    → (number : List ℕ)
    → IsDialled plan number → outcome_of plan limits (call_runs speed number) ≡ Number number
outcome-call plan limits speed lawful fits number dialled =
    let is : number_of plan limits (call_runs speed number) ≡ Some number =
    ap (shortest_complete plan) (digits-call limits speed lawful fits number dialled.0)
    ∙ complete_is_shortest plan number dialled.1 in
    rw is refl

-- what comes of pieces
abbrev outcomes_of_pieces : Plan → Limits → List Attempt → List Dialled
outcomes_of_pieces plan limits pieces =
    map (λ attempt. outcome_of plan limits attempt.runs) (filter (λ piece. has_runs piece.runs) pieces)

outcomes-line : (plan : Plan) (limits : Limits) (speed : Speed) → IsLawful limits → Fits limits speed
    → (numbers : List (List ℕ)) → AllByRecursion (IsDialled plan) numbers
    → outcomes_of_pieces plan limits (pieces_of limits (line_runs speed numbers)) ≡ map Number numbers
outcomes-line plan limits speed lawful fits [] dialled = refl
outcomes-line plan limits speed lawful fits (number ∷ []) dialled =
    ap (outcomes_of_pieces plan limits) (pieces-call limits speed lawful fits number)
    ∙ ap (λ outcome. outcome ∷ []) (outcome-call plan limits speed lawful fits number dialled.0)
outcomes-line plan limits speed lawful fits (number ∷ next ∷ more) dialled =
    ap (outcomes_of_pieces plan limits) (pieces-hung_up limits speed lawful fits number
    (line_runs speed (next ∷ more)))
    ∙ ap (λ outcome. outcome ∷ outcomes_of_pieces plan limits
    (pieces_of limits (line_runs speed (next ∷ more))))
    (outcome-call plan limits speed lawful fits number dialled.0)
    ∙ ap (λ outcomes. Number number ∷ outcomes)
    (outcomes-line plan limits speed lawful fits (next ∷ more) dialled.1)

-- the numbers of a line are numbers that may be dialled
dialled-on : (plan : Plan) (l : ℕ) (calls : List DialledCall) → AreCalls calls → AreComplete plan calls
    → AllByRecursion (IsDialled plan) (numbers_on l calls)
dialled-on plan l [] calls complete = tt
dialled-on plan l (call ∷ rest) calls complete =
    at (dialled-on plan l rest (All-tail IsCall call rest calls) complete.1) (call.line == l) refl
  where
    at : AllByRecursion (IsDialled plan) (numbers_on l rest) → (on : Bool) → (call.line == l) ≡ on
        → AllByRecursion (IsDialled plan) (numbers_on l (call ∷ rest))
    at later true e = rw e (((All-head IsCall call rest calls).digits, complete.0), later)
    at later false e = rw e later

-- each line's outcomes are its numbers
heard : (speed : Speed) (calls : List DialledCall) (rows : List LoopRow) → AreCalls calls
    → AreDialled speed calls rows
    → (plan : Plan) (limits : Limits) → AreComplete plan calls → IsLawful limits → Fits limits speed
    → AreHeard plan limits calls rows
heard speed calls rows are dialled plan limits complete lawful fits l =
    ap (λ own. outcomes_of plan limits (record_up_to_close own)) (dialled l)
    ∙ ap (outcomes_of plan limits) (record-line limits speed lawful fits l (numbers_on l calls))
    ∙ ap (λ runs. outcomes_of_pieces plan limits (pieces_of limits runs))
    (runs-line limits speed lawful fits (numbers_on l calls))
    ∙ outcomes-line plan limits speed lawful fits (numbers_on l calls) (dialled-on plan l calls are complete)

-- the entries of numbers
entries-numbers : (routes : List CodedRoute) (numbers : List (List ℕ))
    → map (λ outcome. marks_of (order_of routes outcome)) (map Number numbers) ≡ map (entry_of routes) numbers
entries-numbers routes [] = refl
entries-numbers routes (number ∷ numbers) = ap (λ entries. entry_of routes number ∷ entries)
    (entries-numbers routes numbers)

-- joined entries
joined-entries : (routes : List CodedRoute) (numbers : List (List ℕ))
    → flat_map (λ entry. entry) (map (entry_of routes) numbers) ≡ flat_map (entry_of routes) numbers
joined-entries routes [] = refl
joined-entries routes (number ∷ numbers) = ap (λ marks. entry_of routes number ++ marks)
    (joined-entries routes numbers)

keyed : (plan : Plan) (limits : Limits) (calls : List DialledCall) (rows : List LoopRow)
    → AreHeard plan limits calls rows
    → AreKeyed plan limits calls rows
keyed plan limits calls rows are routes l =
    ap (map (λ outcome. marks_of (order_of routes outcome))) (are l)
    ∙ entries-numbers routes (numbers_on l calls)

map-same : {A B : Type 0} (f g : A → B) → ((x : A) → f x ≡ g x) → (xs : List A) → map f xs ≡ map g xs
map-same f g same [] = refl
map-same f g same (x ∷ xs) = ap (λ y. y ∷ map f xs) (same x) ∙ ap (λ ys. g x ∷ ys) (map-same f g same xs)

taped : (plan : Plan) (limits : Limits) (calls : List DialledCall) (rows : List LoopRow)
    → AreHeard plan limits calls rows
    → AreTaped plan limits calls rows
taped plan limits calls rows are routes =
    map-same (λ l. joined_tape plan limits routes l rows)
    (λ l. flat_map (entry_of routes) (numbers_on l calls))
    (λ l. ap (flat_map (λ entry. entry)) (keyed plan limits calls rows are routes l)
    ∙ joined-entries routes (numbers_on l calls))
    (lines_below LINES)

-- what is dialled is heard, and keyed
pub dialled_is_heard : DialledIsHeard
dialled_is_heard speed calls rows are dialled =
    record {
      heard = heard speed calls rows are dialled;
      keyed = λ plan limits complete lawful fits.
          keyed plan limits calls rows (heard speed calls rows are dialled plan limits complete lawful fits);
      taped = λ plan limits complete lawful fits.
          taped plan limits calls rows (heard speed calls rows are dialled plan limits complete lawful fits);
    }
