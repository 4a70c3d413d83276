-- The trains of a call are its digits, and what comes of its runs is what comes of the call.
use Rattle.std.proofs.Common.{◌≡◌, ℕ, suc, Bool, true, false, List, [], ◌∷◌, map, length, refl, sym, ap, ap₂, ◌∙◌, inl, inr, le-ltb}
use Rattle.std.specs.Prelude.{nat_le, nat_lt, not, ◌&&◌, ◌||◌, is_none}
use Rattle.std.specs.List.{AllByRecursion, flat_map, list_any}
use Rattle.std.proofs.lemmas.Bool.{lt-ltb}
use Rattle.std.proofs.lemmas.Bool.Decides.{leb_tells}
use Rattle.xb_model.specs.declared.limits.Limits.{Limits}
use Rattle.xb_model.specs.declared.plan.Plan.{Plan}
use Rattle.xb_model.specs.Numbers.{before_mutilated, digit_of_train, or_refused, outcome_of, shortest_complete, train_digits, without_number}
use Rattle.xb_model.specs.Records.{Run, Train, break, cut_at_pauses, heard, make, onto_first, reaches_timeout, trains_of}
use Rattle.xb_model.specs.Signals.{breaks_in, is_bad_train}
use Rattle.xb_worn.specs.declared.pulse.SentPulse.{SentPulse}
use Rattle.xb_worn.specs.HeardCalls.{are_good, digit_heard, digits_heard, digits_of, is_pulse, keeps_apart, onto_digit, outcome_after, pulses_heard, times_out, up_to_timeout}
use Rattle.xb_worn.specs.SentCalls.{SentCall, call_runs, pulse_runs}

-- what is heard of pulses
heard-pulses : (limits : Limits) (pulses : List SentPulse)
    → heard limits (flat_map pulse_runs pulses) ≡ flat_map pulse_runs (up_to_timeout limits pulses)
heard-pulses limits [] = refl
heard-pulses limits (pulse ∷ pulses) = at (heard-pulses limits pulses) (times_out limits pulse.make_ms) refl
  where
    at : heard limits (flat_map pulse_runs pulses) ≡ flat_map pulse_runs (up_to_timeout limits pulses)
        → (out : Bool) → times_out limits pulse.make_ms ≡ out
        → heard limits (flat_map pulse_runs (pulse ∷ pulses))
        ≡ flat_map pulse_runs (up_to_timeout limits (pulse ∷ pulses))
    at rest true e = rw e refl
    at rest false e = rw e (ap (λ runs. break pulse.break_ms ∷ make pulse.make_ms ∷ runs) rest)

-- the runs of a digit before the make that ends it
abbrev inner_of : List SentPulse → List Run
inner_of [] = []
inner_of (pulse ∷ []) = break pulse.break_ms ∷ []
inner_of (pulse ∷ next ∷ more) = break pulse.break_ms ∷ make pulse.make_ms ∷ inner_of (next ∷ more)

-- that make
abbrev last_of : List SentPulse → Run
last_of [] = make 0
last_of (pulse ∷ []) = make pulse.make_ms
last_of (pulse ∷ next ∷ more) = last_of (next ∷ more)

abbrev train_of : List SentPulse → Train
train_of digit = record { inner = inner_of digit; last = last_of digit }

abbrev HasPulses : List SentPulse → Type 0
HasPulses [] = ⊥
HasPulses (pulse ∷ pulses) = Unit {0}

onto-has : (pulse : SentPulse) (digits : List (List SentPulse)) → AllByRecursion HasPulses digits
    → AllByRecursion HasPulses (onto_digit pulse digits)
onto-has pulse [] h = tt
onto-has pulse (digit ∷ digits) h = (tt, h.1)

-- a digit has pulses
digits-have : (limits : Limits) (pulses : List SentPulse) → AllByRecursion HasPulses (digits_of limits pulses)
digits-have limits [] = tt
digits-have limits (pulse ∷ pulses) = at (digits-have limits pulses) (nat_le limits.pause pulse.make_ms) refl
  where
    at : AllByRecursion HasPulses (digits_of limits pulses)
        → (pause : Bool) → nat_le limits.pause pulse.make_ms ≡ pause
        → AllByRecursion HasPulses (digits_of limits (pulse ∷ pulses))
    at rest true e = rw e (tt, rest)
    at rest false e = rw e (onto-has pulse (digits_of limits pulses) rest)

onto-trains : (pulse : SentPulse) (digits : List (List SentPulse)) → AllByRecursion HasPulses digits
    → onto_first (break pulse.break_ms) (onto_first (make pulse.make_ms) (map train_of digits))
    ≡ map train_of (onto_digit pulse digits)
onto-trains pulse [] h = refl
onto-trains pulse ([] ∷ digits) h = absurd h.0
onto-trains pulse ((next ∷ more) ∷ digits) h = refl

-- the trains of pulses are their digits
trains-pulses : (limits : Limits) (pulses : List SentPulse)
    → cut_at_pauses limits (flat_map pulse_runs pulses) ≡ map train_of (digits_of limits pulses)
trains-pulses limits [] = refl
trains-pulses limits (pulse ∷ pulses) = at (trains-pulses limits pulses) (nat_le limits.pause pulse.make_ms) refl
  where
    at : cut_at_pauses limits (flat_map pulse_runs pulses) ≡ map train_of (digits_of limits pulses)
        → (pause : Bool) → nat_le limits.pause pulse.make_ms ≡ pause
        → cut_at_pauses limits (flat_map pulse_runs (pulse ∷ pulses))
        ≡ map train_of (digits_of limits (pulse ∷ pulses))
    at rest true e = rw e (ap (λ trains. train_of (pulse ∷ []) ∷ trains) rest)
    at rest false e =
        rw e
        (ap (λ trains. onto_first (break pulse.break_ms) (onto_first (make pulse.make_ms) trains)) rest
        ∙ onto-trains pulse (digits_of limits pulses) (digits-have limits pulses))

-- a train has as many breaks as the digit has pulses
breaks-digit : (digit : List SentPulse) → breaks_in (train_of digit) ≡ length digit
breaks-digit [] = refl
breaks-digit (pulse ∷ []) = refl
breaks-digit (pulse ∷ next ∷ more) = ap suc (breaks-digit (next ∷ more))

-- what is not at least so many is less
less-not : (a b : ℕ) → nat_lt a b ≡ not (nat_le b a)
less-not a b = elim (leb_tells b a) [
  | inl h ↦ le-ltb a b h.1 ∙ ap not (sym h.0)
  | inr h ↦ lt-ltb a b h.1 ∙ ap not (sym h.0)
]

either-not : (a b : Bool) → (not a || not b) ≡ not (a && b)
either-not true b = refl
either-not false b = refl

-- a bad break is no pulse, and a bad make keeps nothing apart
bad-break : (limits : Limits) (pulse : SentPulse)
    → (nat_lt pulse.break_ms limits.pulse_min || nat_lt limits.pulse_max pulse.break_ms)
    ≡ not (is_pulse limits pulse)
bad-break limits pulse =
    ap₂ (λ a b. a || b) (less-not pulse.break_ms limits.pulse_min) (less-not limits.pulse_max pulse.break_ms)
    ∙ either-not (nat_le limits.pulse_min pulse.break_ms) (nat_le pulse.break_ms limits.pulse_max)

bad-first : (a b c : Bool) → (not a || (not b || not c)) ≡ not (a && (b && c))
bad-first true true c = refl
bad-first true false c = refl
bad-first false b c = refl

last-bad : (a : Bool) → (a || false) ≡ a
last-bad true = refl
last-bad false = refl

bad-digit : (limits : Limits) (digit : List SentPulse)
    → is_bad_train limits (train_of digit) ≡ not (are_good limits digit)
bad-digit limits [] = refl
bad-digit limits (pulse ∷ []) = last-bad _ ∙ bad-break limits pulse
bad-digit limits (pulse ∷ next ∷ more) =
    ap₂ (λ first rest. first || (nat_lt pulse.make_ms limits.make_min || rest)) (bad-break limits pulse)
    (bad-digit limits (next ∷ more))
    ∙ ap (λ make. not (is_pulse limits pulse) || (make || not (are_good limits (next ∷ more))))
    (less-not pulse.make_ms limits.make_min)
    ∙ bad-first (is_pulse limits pulse) (keeps_apart limits pulse) (are_good limits (next ∷ more))

-- the digit of a train is the one that is heard
digit-train : (limits : Limits) (digit : List SentPulse)
    → digit_of_train limits (train_of digit) ≡ digit_heard limits digit
digit-train limits digit = rw (breaks-digit digit, bad-digit limits digit) refl

digit-trains : (limits : Limits) (digits : List (List SentPulse))
    → map (digit_of_train limits) (map train_of digits) ≡ map (digit_heard limits) digits
digit-trains limits [] = refl
digit-trains limits (digit ∷ digits) =
    ap₂ (λ first rest. first ∷ rest) (digit-train limits digit) (digit-trains limits digits)

-- the trains of a call
trains-call : (limits : Limits) (call : SentCall)
    → trains_of limits (call_runs call) ≡ map train_of (digits_of limits (pulses_heard limits call))
trains-call limits call = at (times_out limits call.seize_ms) refl
  where
    at : (out : Bool) → times_out limits call.seize_ms ≡ out
        → trains_of limits (call_runs call) ≡ map train_of (digits_of limits (pulses_heard limits call))
    at true e = rw e refl
    at false e =
        rw e
        (ap (cut_at_pauses limits) (heard-pulses limits call.pulses)
        ∙ trains-pulses limits (up_to_timeout limits call.pulses))

digits-call : (limits : Limits) (call : SentCall) → train_digits limits (call_runs call) ≡ digits_heard limits call
digits-call limits call =
    ap (map (digit_of_train limits)) (trains-call limits call)
    ∙ digit-trains limits (digits_of limits (pulses_heard limits call))

-- a make of it times out
timed-pulses : (limits : Limits) (pulses : List SentPulse)
    → list_any (reaches_timeout limits) (flat_map pulse_runs pulses)
    ≡ list_any (λ pulse. times_out limits pulse.make_ms) pulses
timed-pulses limits [] = refl
timed-pulses limits (pulse ∷ pulses) = ap (λ rest. times_out limits pulse.make_ms || rest) (timed-pulses limits pulses)

-- what comes of the runs of a call
pub outcome-call : (plan : Plan) (limits : Limits) (call : SentCall)
    → outcome_of plan limits (call_runs call) ≡ outcome_after plan limits call
outcome-call plan limits call =
    ap₂ (λ digits timed. or_refused (shortest_complete plan (before_mutilated digits))
    (without_number (list_any is_none digits) timed (length (before_mutilated digits))))
    (digits-call limits call)
    (ap (λ rest. times_out limits call.seize_ms || rest) (timed-pulses limits call.pulses))
