-- A dial that is not worn sends what is dialled.
use Rattle.std.proofs.Common.{◌≡◌, ℕ, zero, suc, ◌+◌, ◌*◌, ◌%◌, Bool, true, false, List, [], ◌∷◌, ◌++◌, map, refl, sym, ap, ap₂, ◌∙◌, arith, append-nil, pos, ◌+ℤ◌}
use Rattle.std.specs.Prelude.{◌==◌}
use Rattle.std.specs.List.{flat_map}
use Rattle.std.proofs.lemmas.Grind.{flat_map-append}
use Rattle.std.proofs.lemmas.Int.{ints}
use Rattle.xb_model.specs.declared.line.TheConstants.{LINES}
use Rattle.xb_model.specs.Lines.{lines_below}
use Rattle.xb_model.specs.Records.{Run, break, make}
use Rattle.xb_calls.specs.declared.speed.Speed.{Speed}
use Rattle.xb_calls.specs.Calls.{DialledCall}
use Rattle.xb_calls.specs.Dialling.{digit_runs, in_order, numbers_on, on_line, pulse_count, pulses}
use Rattle.xb_calls.specs.Dialling as dialling
use Rattle.xb_chance.specs.Swings.{swing}
use Rattle.xb_chance.specs.Words.{state_after, word_of}
use Rattle.xb_worn.specs.declared.fault.DigitPlace.{DigitPlace}
use Rattle.xb_worn.specs.declared.wear.Wear.{Wear}
use Rattle.xb_worn.specs.Faults.{digit_place}
use Rattle.xb_worn.specs.Sending.{call_sent, ended, pulses_from, sent, sent_calls, sent_digit, sent_digits}
use Rattle.xb_worn.specs.SentCalls.{SentCall, call_runs, calls_on, line_rows, line_runs, pulse_of, pulse_runs}
use Rattle.xb_worn.specs.Unworn.{IsUnworn, UnwornDials}
use Rattle.xb_worn.specs.Wears.{above_zero, slowed, worn_pulse, worn_time}

-- a time that is neither slowed nor moved
slowed-none : (before ms : ℕ) → slowed 0 before ms ≡ ms
slowed-none before ms = omega arith

moved-none : (state n ms : ℕ) → pos ms +ℤ swing 0 state n ≡ pos ms
moved-none state n ms =
    let word : ℕ = word_of (state_after state (n + 1)) in
    let none : word % (2 * 0 + 1) ≡ 0 = omega arith in
    omega (arith, ints, none)

unworn-time : (wear : Wear) → IsUnworn wear → (state n before ms : ℕ) → worn_time wear state n before ms ≡ ms
unworn-time wear plain state n before ms =
    ap₂ (λ percent jitter. above_zero (pos (slowed percent before ms) +ℤ swing jitter state n)) plain.steady plain.even
    ∙ ap (λ longer. above_zero (pos longer +ℤ swing 0 state n)) (slowed-none before ms)
    ∙ ap above_zero (moved-none state n ms)

unworn-pulse : (wear : Wear) → IsUnworn wear → (state before : ℕ)
    → worn_pulse wear state before ≡ pulse_of wear.speed.break_ms wear.speed.make_ms
unworn-pulse wear plain state before =
    ap₂ pulse_of (unworn-time wear plain state (2 * before) before wear.speed.break_ms)
    (unworn-time wear plain state (2 * before + 1) before wear.speed.make_ms)

-- the pulses of a digit
unworn-pulses : (wear : Wear) → IsUnworn wear → (place : DigitPlace) (state before n : ℕ)
    → flat_map pulse_runs (ended wear.speed.pause_ms (pulses_from wear [] place state before n))
    ≡ pulses wear.speed n
unfolding pulses pulses_from
unworn-pulses wear plain place state before zero = refl
unworn-pulses wear plain place state before (suc zero) =
    ap (λ pulse. break pulse.break_ms ∷ make wear.speed.pause_ms ∷ []) (unworn-pulse wear plain state before)
unworn-pulses wear plain place state before (suc (suc n)) =
    ap₂ (λ pulse rest. break pulse.break_ms ∷ make pulse.make_ms ∷ rest) (unworn-pulse wear plain state before)
    (unworn-pulses wear plain place state (before + 1) (suc n))

unworn-digits : (wear : Wear) → IsUnworn wear → (call state number : ℕ) (digits : List ℕ)
    → flat_map pulse_runs (sent_digits wear [] call state number digits)
    ≡ flat_map (digit_runs wear.speed) digits
unworn-digits wear plain call state number [] = refl
unworn-digits wear plain call state number (digit ∷ digits) =
    let next : ℕ = state_after state 1 in
    let place = digit_place call number in
    let own = ended wear.speed.pause_ms (pulses_from wear [] place (word_of next) 0 (pulse_count digit)) in
    flat_map-append pulse_runs (sent_digit wear [] place (word_of next) digit)
    (sent_digits wear [] call next (number + 1) digits)
    ∙ ap₂ (λ first rest. first ++ rest)
    (ap (flat_map pulse_runs) (append-nil own)
    ∙ unworn-pulses wear plain place (word_of next) 0 (pulse_count digit))
    (unworn-digits wear plain call next (number + 1) digits)

unworn-call : (wear : Wear) → IsUnworn wear → (number state : ℕ) (call : DialledCall)
    → call_runs (call_sent wear [] number state call) ≡ dialling.call_runs wear.speed call.digits
unworn-call wear plain number state call =
    ap (λ runs. make wear.speed.seize_ms ∷ runs) (unworn-digits wear plain number state 1 call.digits)

-- the calls of a line
unworn-calls : (wear : Wear) → IsUnworn wear → (l state number : ℕ) (calls : List DialledCall)
    → map call_runs (calls_on l (sent_calls wear [] state number calls))
    ≡ map (dialling.call_runs wear.speed) (numbers_on l calls)
unworn-calls wear plain l state number [] = refl
unworn-calls wear plain l state number (call ∷ calls) =
    at (state_after state 1) (unworn-calls wear plain l (state_after state 1) (number + 1) calls)
    (unworn-call wear plain number (word_of (state_after state 1)) call) (call.line == l) refl
  where
    at : (next : ℕ)
        → map call_runs (calls_on l (sent_calls wear [] next (number + 1) calls))
        ≡ map (dialling.call_runs wear.speed) (numbers_on l calls)
        → call_runs (call_sent wear [] number (word_of next) call) ≡ dialling.call_runs wear.speed call.digits
        → (on : Bool) → (call.line == l) ≡ on
        → map call_runs (calls_on l (call_sent wear [] number (word_of next) call
        ∷ sent_calls wear [] next (number + 1) calls))
        ≡ map (dialling.call_runs wear.speed) (numbers_on l (call ∷ calls))
    at next rest one true e = rw e (ap₂ (λ first later. first ∷ later) one rest)
    at next rest one false e = rw e rest

-- runs of calls, with a break between two
abbrev hung_up : ℕ → List (List Run) → List Run
hung_up h [] = []
hung_up h (call ∷ []) = call
hung_up h (call ∷ next ∷ more) = call ++ break h ∷ hung_up h (next ∷ more)

line-sent : (h : ℕ) (calls : List SentCall) → line_runs h calls ≡ hung_up h (map call_runs calls)
line-sent h [] = refl
line-sent h (call ∷ []) = refl
line-sent h (call ∷ next ∷ more) = ap (λ rest. call_runs call ++ break h ∷ rest) (line-sent h (next ∷ more))

line-dialled : (speed : Speed) (numbers : List (List ℕ))
    → dialling.line_runs speed numbers ≡ hung_up speed.hang_up_ms (map (dialling.call_runs speed) numbers)
line-dialled speed [] = refl
line-dialled speed (number ∷ []) = refl
line-dialled speed (number ∷ next ∷ more) =
    ap (λ rest. dialling.call_runs speed number ++ break speed.hang_up_ms ∷ rest) (line-dialled speed (next ∷ more))

unworn-line : (wear : Wear) → IsUnworn wear → (calls : List DialledCall) (l : ℕ)
    → line_rows wear.speed.hang_up_ms (sent wear [] calls) l ≡ dialling.line_rows wear.speed calls l
unworn-line wear plain calls l =
    let h : ℕ = wear.speed.hang_up_ms in
    ap (on_line l) (line-sent h (calls_on l (sent wear [] calls))
    ∙ ap (hung_up h) (unworn-calls wear plain l wear.seed 1 calls)
    ∙ sym (line-dialled wear.speed (numbers_on l calls)))

map-same : {A B : Type 0} (f g : A → B) → ((x : A) → f x ≡ g x) → (xs : List A) → map f xs ≡ map g xs
map-same f g same [] = refl
map-same f g same (x ∷ xs) = ap₂ (λ y ys. y ∷ ys) (same x) (map-same f g same xs)

pub unworn_dials : UnwornDials
unworn_dials order wear calls plain =
    ap (in_order order)
    (map-same (line_rows wear.speed.hang_up_ms (sent wear [] calls)) (dialling.line_rows wear.speed calls)
    (unworn-line wear plain calls) (lines_below LINES))
