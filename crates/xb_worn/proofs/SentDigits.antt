-- The pulses of a digit, one more, and the pause after the last.
use Rattle.std.proofs.Common.{◌≡◌, ℕ, suc, ◌+◌, ◌-◌, ◌<◌, List, [], ◌∷◌, ◌++◌, refl, sym, ap, ◌∙◌, arith, append_assoc, append-nil}
use Rattle.xb_worn.specs.declared.fault.DigitPlace.{DigitPlace}
use Rattle.xb_worn.specs.declared.fault.Fault.{Fault}
use Rattle.xb_worn.specs.declared.pulse.SentPulse.{SentPulse}
use Rattle.xb_worn.specs.declared.wear.Wear.{Wear}
use Rattle.xb_worn.specs.Faults.{pulse_fault, pulse_place}
use Rattle.xb_worn.specs.Sending.{ended, pulses_from, with_fault}
use Rattle.xb_worn.specs.SentCalls.{pulse_of}
use Rattle.xb_worn.specs.Wears.{worn_pulse}

-- the last make is the pause
pub ended-last : (pause : ℕ) (pulses : List SentPulse) (last : SentPulse)
    → ended pause (pulses ++ last ∷ []) ≡ pulses ++ pulse_of last.break_ms pause ∷ []
ended-last pause [] last = refl
ended-last pause (pulse ∷ []) last = refl
ended-last pause (pulse ∷ next ∷ more) last = ap (λ pulses. pulse ∷ pulses) (ended-last pause (next ∷ more) last)

-- one pulse more, and those after it
pub pulse-more : (wear : Wear) (faults : List Fault) (place : DigitPlace) (state before count : ℕ)
    → before < count → (earlier new whole : List SentPulse)
    → earlier ++ pulses_from wear faults place state before (count - before) ≡ whole
    → new ≡ earlier
    ++ with_fault (pulse_fault (pulse_place place (before + 1)) faults) (worn_pulse wear state before)
    → new ++ pulses_from wear faults place state (before + 1) (count - (before + 1)) ≡ whole
unfolding pulses_from
pulse-more wear faults place state before count below earlier new whole so_far taken =
    let left : ℕ = count - (before + 1) in
    let more : count - before ≡ suc left = omega arith in
    let one =
    with_fault (pulse_fault (pulse_place place (before + 1)) faults) (worn_pulse wear state before) in
    ap (λ pulses. pulses ++ pulses_from wear faults place state (before + 1) left) taken
    ∙ append_assoc earlier one (pulses_from wear faults place state (before + 1) left)
    ∙ ap (λ n. earlier ++ pulses_from wear faults place state before n) (sym more)
    ∙ so_far

-- none more
pub pulse-last : (wear : Wear) (faults : List Fault) (place : DigitPlace) (state before count : ℕ)
    → count ≡ before → (earlier whole : List SentPulse)
    → earlier ++ pulses_from wear faults place state before (count - before) ≡ whole
    → earlier ≡ whole
unfolding pulses_from
pulse-last wear faults place state before count end earlier whole so_far =
    let none : count - before ≡ 0 = omega (arith, end) in
    sym (append-nil earlier)
    ∙ ap (λ n. earlier ++ pulses_from wear faults place state before n) (sym none)
    ∙ so_far
