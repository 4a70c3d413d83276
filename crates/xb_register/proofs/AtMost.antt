-- At most one outcome for each seizure, and none before the first.
use Rattle.std.proofs.Common.{◌≡◌, ℕ, ◌+◌, ◌≤◌, List, [], ◌∷◌, ◌++◌, length, Option, Some, None, refl, arith, length-append}
use Rattle.std.specs.Option.{option_to_list}
use Rattle.std.proofs.lemmas.Bool.{cond_both}
use Rattle.std.proofs.lemmas.List.{length-map}
use Rattle.xb_model.specs.declared.plan.Plan.{Plan}
use Rattle.xb_model.specs.declared.signal.Signal.{Signal}
use Rattle.xb_model.specs.declared.signal.Signal.TheVariants.{Seize, Digit, TimeOut, Release, Close}
use Rattle.xb_model.specs.declared.dialled.Dialled.TheVariants.{Number}
use Rattle.xb_model.specs.Plans.{plan_len}
use Rattle.xb_model.specs.TwoOfFive.{digit_of_pattern, pattern_of_count}
use Rattle.xb_register.specs.declared.step.Step.{Step}
use Rattle.xb_register.specs.declared.state.Phase.{Phase}
use Rattle.xb_register.specs.declared.state.Phase.TheVariants.{OnHook, Listening, Done}
use Rattle.xb_register.specs.Machine.{reaches, enter, give, store, advance, machine}
use Rattle.xb_register.specs.Laws.{seizures, EachSeizureGivesAtMostOne, GivesNoMoreThanSeizures, GivesNoneBeforeASeizure}
use Rattle.xb_register.proofs.Outcomes.{outcomes_from, outcomes_given-machine}

-- the attempts that have no outcome yet
abbrev unfinished : Phase → ℕ
unfinished OnHook = 0
unfinished (Listening digits) = 1
unfinished Done = 0

-- the outcome of a step, and the attempts that have none after it, are at most n
abbrev GivesAtMost : ℕ → Step → Type 0
GivesAtMost n step = length (option_to_list step.outcome) + unfinished step.phase ≤ n

-- a digit ends the attempt, or leaves it without an outcome
store_at_most : (plan : Plan) (digits : List ℕ) (o : Option ℕ) → GivesAtMost 1 (store plan digits o)
store_at_most plan digits None = omega arith
store_at_most plan digits (Some d) =
    let more : List ℕ = digits ++ d ∷ [] in
    cond_both (reaches (plan_len plan more) (length more)) (give (Number more) Done) (enter (Listening more))
    (GivesAtMost 1) (λ _. omega arith) (λ _. omega arith)

-- a signal brings one outcome at most, and that only in an unfinished attempt or at a seizure
advance_at_most : (plan : Plan) (phase : Phase) (signal : Signal)
    → GivesAtMost (unfinished phase + seizures (signal ∷ [])) (advance plan phase signal)
advance_at_most plan OnHook Seize = omega arith
advance_at_most plan OnHook (Digit count bad) = omega arith
advance_at_most plan OnHook TimeOut = omega arith
advance_at_most plan OnHook Release = omega arith
advance_at_most plan OnHook Close = omega arith
advance_at_most plan (Listening digits) Seize = omega arith
advance_at_most plan (Listening digits) (Digit count bad) =
    store_at_most plan digits (digit_of_pattern (pattern_of_count count bad))
advance_at_most plan (Listening digits) TimeOut = omega arith
advance_at_most plan (Listening digits) Release = omega arith
advance_at_most plan (Listening digits) Close = omega arith
advance_at_most plan Done Seize = omega arith
advance_at_most plan Done (Digit count bad) = omega arith
advance_at_most plan Done TimeOut = omega arith
advance_at_most plan Done Release = omega arith
advance_at_most plan Done Close = omega arith

-- one signal and those after it
seizures-cons : (signal : Signal) (signals : List Signal)
    → seizures (signal ∷ signals) ≡ seizures (signal ∷ []) + seizures signals
seizures-cons Seize signals = omega arith
seizures-cons (Digit count bad) signals = omega arith
seizures-cons TimeOut signals = omega arith
seizures-cons Release signals = omega arith
seizures-cons Close signals = omega arith

-- signals give one outcome at most for each seizure, and for an attempt that is unfinished
at_most : (plan : Plan) (phase : Phase) (signals : List Signal)
    → length (outcomes_from plan phase signals) ≤ unfinished phase + seizures signals
at_most plan phase [] = omega arith
at_most plan phase (signal ∷ signals) =
    let step : Step = advance plan phase signal in
    let joined = length-append (option_to_list step.outcome) (outcomes_from plan step.phase signals) in
    let here = advance_at_most plan phase signal in
    let later = at_most plan step.phase signals in
    let split = seizures-cons signal signals in
    omega arith

-- a seizure, and what comes after it up to the next, give one outcome at most
seized : (plan : Plan) (phase : Phase) (after : List Signal) → seizures after ≡ 0
    → length (outcomes_from plan phase (Seize ∷ after)) ≤ 1
seized plan OnHook after none = omega (arith, at_most plan (Listening []) after)
seized plan (Listening digits) after none = omega (arith, at_most plan (Listening digits) after)
seized plan Done after none = omega (arith, at_most plan Done after)

-- whatever came before, they add one at most
adds_one : (plan : Plan) (phase : Phase) (before after : List Signal) → seizures after ≡ 0
    → length (outcomes_from plan phase (before ++ Seize ∷ after))
    ≤ length (outcomes_from plan phase before) + 1
adds_one plan phase [] after none = seized plan phase after none
adds_one plan phase (signal ∷ before) after none =
    let step : Step = advance plan phase signal in
    simp length-append (omega (arith, adds_one plan step.phase before after none))

-- on-hook, nothing is heard but a seizure
none_before : (plan : Plan) (before after : List Signal) → seizures before ≡ 0
    → outcomes_from plan OnHook (before ++ after) ≡ outcomes_from plan OnHook after
none_before plan [] after e = refl
none_before plan (Seize ∷ before) after e = absurd (omega arith)
none_before plan (Digit count bad ∷ before) after e = none_before plan before after e
none_before plan (TimeOut ∷ before) after e = none_before plan before after e
none_before plan (Release ∷ before) after e = none_before plan before after e
none_before plan (Close ∷ before) after e = none_before plan before after e

-- on a line, each seizure adds one outcome at most
pub each_gives_at_most_one : (plan : Plan) → EachSeizureGivesAtMostOne (machine plan)
each_gives_at_most_one plan line before after none =
    rw (outcomes_given-machine plan line (before ++ Seize ∷ after), outcomes_given-machine plan line before)
    (simp length-map (adds_one plan OnHook before after none))

-- on a line, there are no more outcomes than seizures
pub gives_no_more : (plan : Plan) → GivesNoMoreThanSeizures (machine plan)
gives_no_more plan line signals =
    rw (outcomes_given-machine plan line signals, length-map) (omega (arith, at_most plan OnHook signals))

-- on a line, what comes before the first seizure gives nothing
pub gives_none_before : (plan : Plan) → GivesNoneBeforeASeizure (machine plan)
gives_none_before plan line before after e =
    let whole = outcomes_given-machine plan line (before ++ after) in
    let alone = outcomes_given-machine plan line after in
    rw (whole, alone, none_before plan before after e)
