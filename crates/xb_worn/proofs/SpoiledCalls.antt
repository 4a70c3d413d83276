-- A spoiled digit mutilates, and a number that was heard stays.
use Rattle.std.proofs.Common.{◌≡◌, ℕ, Bool, true, false, List, [], ◌∷◌, ◌++◌, map, length, Option, Some, None, refl, sym, ap, ap₂, ◌∙◌, append-nil}
use Rattle.std.specs.Prelude.{is_none, nat_le, option_map}
use Rattle.std.specs.List.{find, list_any}
use Rattle.std.proofs.lemmas.List.{map-append}
use Rattle.xb_model.specs.declared.dialled.Dialled.{Dialled}
use Rattle.xb_model.specs.declared.dialled.Dialled.TheVariants.{Number}
use Rattle.xb_model.specs.declared.limits.Limits.{Limits}
use Rattle.xb_model.specs.declared.plan.Plan.{Plan}
use Rattle.xb_model.specs.Numbers.{before_mutilated, fronts, is_complete, or_refused, shortest_complete, without_number}
use Rattle.xb_calls.proofs.CompleteNumbers.{complete_is_shortest, find-map}
use Rattle.xb_worn.specs.declared.pulse.SentPulse.{SentPulse}
use Rattle.xb_worn.specs.FieldLaws.{CompleteIsHeard, NumbersStay, OneOutcome, SpoiledMutilates}
use Rattle.xb_worn.specs.HeardCalls.{after_hang_ups, before_hang_up, digit_heard, digits_heard, digits_of, hangs_up, is_timed_out, onto_digit, outcome_after, times_out, up_to_timeout}
use Rattle.xb_worn.specs.SentCalls.{sent_call}

-- nothing hangs up
before-none : (limits : Limits) (pulses : List SentPulse) → list_any (hangs_up limits) pulses ≡ false
    → before_hang_up limits pulses ≡ pulses
before-none limits [] none = refl
before-none limits (pulse ∷ pulses) none = at (before-none limits pulses) (hangs_up limits pulse) refl
  where
    at : (list_any (hangs_up limits) pulses ≡ false → before_hang_up limits pulses ≡ pulses)
        → (hung : Bool) → hangs_up limits pulse ≡ hung → before_hang_up limits (pulse ∷ pulses) ≡ pulse ∷ pulses
    at rest true e = absurd (cc (rw e at none))
    at rest false e = rw e (ap (λ ps. pulse ∷ ps) (rest (rw e at none)))

after-none : (limits : Limits) (line : ℕ) (pulses : List SentPulse) → list_any (hangs_up limits) pulses ≡ false
    → after_hang_ups limits line pulses ≡ []
after-none limits line [] none = refl
after-none limits line (pulse ∷ pulses) none = at (after-none limits line pulses) (hangs_up limits pulse) refl
  where
    at : (list_any (hangs_up limits) pulses ≡ false → after_hang_ups limits line pulses ≡ [])
        → (hung : Bool) → hangs_up limits pulse ≡ hung → after_hang_ups limits line (pulse ∷ pulses) ≡ []
    at rest true e = absurd (cc (rw e at none))
    at rest false e = rw e (rest (rw e at none))

pub one_outcome : OneOutcome
one_outcome plan limits call none =
    ap₂ (λ pulses later. outcome_after plan limits (sent_call call.line call.seize_ms pulses)
    ∷ map (outcome_after plan limits) later)
    (before-none limits call.pulses none) (after-none limits call.line call.pulses none)

-- what comes of digits
abbrev outcome_by : Plan → Bool → List ℕ → Bool → Dialled
outcome_by plan timed good spoiled =
    or_refused (shortest_complete plan good) (without_number spoiled timed (length good))

good-then : (good : List ℕ) (later : List (Option ℕ))
    → before_mutilated (map Some good ++ later) ≡ good ++ before_mutilated later
good-then [] later = refl
good-then (digit ∷ good) later = ap (λ digits. digit ∷ digits) (good-then good later)

spoiled-then : (good : List ℕ) (later : List (Option ℕ))
    → list_any is_none (map Some good ++ None ∷ later) ≡ true
spoiled-then [] later = refl
spoiled-then (digit ∷ good) later = spoiled-then good later

pub spoiled_mutilates : SpoiledMutilates
spoiled_mutilates plan limits call good later heard none =
    let timed = is_timed_out limits call in
    ap (λ digits. outcome_by plan timed (before_mutilated digits) (list_any is_none digits)) heard
    ∙ ap₂ (outcome_by plan timed) (good-then good (None ∷ later) ∙ append-nil good) (spoiled-then good later)
    ∙ rw none refl

-- what is found among the fronts of digits is found among those of more digits
find-stays : (test : List ℕ → Bool) (digits more front : List ℕ) → find test (fronts digits) ≡ Some front
    → find test (fronts (digits ++ more)) ≡ Some front
find-stays test [] [] front found = found
find-stays test [] (d ∷ more) front found = at (test []) refl
  where
    at : (passes : Bool) → test [] ≡ passes → find test (fronts (d ∷ more)) ≡ Some front
    at true e = rw e (rw e at found)
    at false e = absurd (cc (rw e at found))
find-stays test (d ∷ digits) more front found =
    at (find-stays (λ rest. test (d ∷ rest)) digits more) (test []) refl
  where
    mapped : (one : Option (List ℕ)) → option_map (λ rest. d ∷ rest) one ≡ Some front
        → ((rest : List ℕ) → one ≡ Some rest
        → find (λ rest. test (d ∷ rest)) (fronts (digits ++ more)) ≡ Some rest)
        → option_map (λ rest. d ∷ rest) (find (λ rest. test (d ∷ rest)) (fronts (digits ++ more))) ≡ Some front
    mapped None is stays = absurd (cc is)
    mapped (Some rest) is stays = ap (option_map (λ rest. d ∷ rest)) (stays rest refl) ∙ is

    at : ((rest : List ℕ) → find (λ rest. test (d ∷ rest)) (fronts digits) ≡ Some rest
        → find (λ rest. test (d ∷ rest)) (fronts (digits ++ more)) ≡ Some rest)
        → (passes : Bool) → test [] ≡ passes → find test (fronts (d ∷ (digits ++ more))) ≡ Some front
    at stays true e = rw e (rw e at found)
    at stays false e =
        rw e
        (find-map test (λ rest. d ∷ rest) (fronts (digits ++ more))
        ∙ mapped (find (λ rest. test (d ∷ rest)) (fronts digits))
        (sym (find-map test (λ rest. d ∷ rest) (fronts digits)) ∙ (rw e at found)) stays)

pub complete_is_heard : CompleteIsHeard
complete_is_heard plan limits call number later heard complete =
    let found : shortest_complete plan (before_mutilated (digits_heard limits call)) ≡ Some number =
    ap (λ digits. shortest_complete plan (before_mutilated digits)) heard
    ∙ ap (shortest_complete plan) (good-then number later)
    ∙ find-stays (is_complete plan) number (before_mutilated later) number
    (complete_is_shortest plan number complete) in
    rw found refl

-- a number that comes of digits was found
number-found : (found : Option (List ℕ)) (spoiled timed : Bool) (count : ℕ) (number : List ℕ)
    → or_refused found (without_number spoiled timed count) ≡ Number number
    → found ≡ Some number
number-found None spoiled timed count number is = absurd (cc is)
number-found (Some digits) spoiled timed count number is = cc

-- what is heard of pulses stays, whatever comes after
heard-stays : (limits : Limits) (pulses later : List SentPulse)
    → (rest : List SentPulse) × (up_to_timeout limits (pulses ++ later) ≡ up_to_timeout limits pulses ++ rest)
heard-stays limits [] later = (up_to_timeout limits later, refl)
heard-stays limits (pulse ∷ pulses) later = at (heard-stays limits pulses later) (times_out limits pulse.make_ms) refl
  where
    at : ((rest : List SentPulse) × (up_to_timeout limits (pulses ++ later) ≡ up_to_timeout limits pulses ++ rest))
        → (out : Bool) → times_out limits pulse.make_ms ≡ out
        → (rest : List SentPulse)
        × (up_to_timeout limits (pulse ∷ (pulses ++ later)) ≡ up_to_timeout limits (pulse ∷ pulses) ++ rest)
    at more true e = ([], rw e refl)
    at more false e = (more.0, rw e (ap (λ ps. pulse ∷ ps) more.1))

-- and so do the digits
onto-stays : (pulse : SentPulse) (digits more : List (List SentPulse))
    → (rest : List (List SentPulse)) × (onto_digit pulse (digits ++ more) ≡ onto_digit pulse digits ++ rest)
onto-stays pulse [] more = (onto_digit pulse more, refl)
onto-stays pulse (digit ∷ digits) more = (more, refl)

digits-stay : (limits : Limits) (pulses later : List SentPulse)
    → (rest : List (List SentPulse)) × (digits_of limits (pulses ++ later) ≡ digits_of limits pulses ++ rest)
digits-stay limits [] later = (digits_of limits later, refl)
digits-stay limits (pulse ∷ pulses) later =
    at (digits-stay limits pulses later) (nat_le limits.pause pulse.make_ms) refl
  where
    at : ((rest : List (List SentPulse)) × (digits_of limits (pulses ++ later) ≡ digits_of limits pulses ++ rest))
        → (pause : Bool) → nat_le limits.pause pulse.make_ms ≡ pause
        → (rest : List (List SentPulse))
        × (digits_of limits (pulse ∷ (pulses ++ later)) ≡ digits_of limits (pulse ∷ pulses) ++ rest)
    at more true e = (more.0, rw e (ap (λ digits. (pulse ∷ []) ∷ digits) more.1))
    at more false e =
        let onto = onto-stays pulse (digits_of limits pulses) more.0 in
        (onto.0, rw e (ap (onto_digit pulse) more.1 ∙ onto.1))

-- and the digits of a call
call-stays : (limits : Limits) (line seize : ℕ) (pulses later : List SentPulse)
    → (rest : List (Option ℕ))
    × (digits_heard limits (sent_call line seize (pulses ++ later))
    ≡ digits_heard limits (sent_call line seize pulses) ++ rest)
call-stays limits line seize pulses later = at (times_out limits seize) refl
  where
    at : (out : Bool) → times_out limits seize ≡ out
        → (rest : List (Option ℕ))
        × (digits_heard limits (sent_call line seize (pulses ++ later))
        ≡ digits_heard limits (sent_call line seize pulses) ++ rest)
    at true e = ([], rw e refl)
    at false e =
        let heard = heard-stays limits pulses later in
        let digits = digits-stay limits (up_to_timeout limits pulses) heard.0 in (
          map (digit_heard limits) digits.0,
          rw e
              (ap (λ ps. map (digit_heard limits) (digits_of limits ps)) heard.1
              ∙ ap (map (digit_heard limits)) digits.1
              ∙ map-append (digit_heard limits) (digits_of limits (up_to_timeout limits pulses)) digits.0),
        )

good-stays : (digits more : List (Option ℕ))
    → (rest : List ℕ) × (before_mutilated (digits ++ more) ≡ before_mutilated digits ++ rest)
good-stays [] more = (before_mutilated more, refl)
good-stays (None ∷ digits) more = ([], refl)
good-stays (Some digit ∷ digits) more =
    let rest = good-stays digits more in (rest.0, ap (λ good. digit ∷ good) rest.1)

pub numbers_stay : NumbersStay
numbers_stay plan limits line seize pulses later number is =
    let call = sent_call line seize pulses in
    let longer = sent_call line seize (pulses ++ later) in
    let digits = digits_heard limits call in
    let found = number-found (shortest_complete plan (before_mutilated digits)) (list_any is_none digits)
    (is_timed_out limits call) (length (before_mutilated digits)) number is in
    let more = call-stays limits line seize pulses later in
    let good = good-stays digits more.0 in
    let stays : shortest_complete plan (before_mutilated (digits_heard limits longer)) ≡ Some number =
    ap (λ ds. shortest_complete plan (before_mutilated ds)) more.1
    ∙ ap (shortest_complete plan) good.1
    ∙ find-stays (is_complete plan) (before_mutilated digits) good.0 number found in
    rw stays refl
