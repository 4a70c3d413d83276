-- A digit that loses a pulse, or has one more.
use Rattle.std.proofs.Common.{◌≡◌, ℕ, zero, suc, ◌+◌, ◌-◌, ◌<◌, ◌≤◌, true, false, List, [], ◌∷◌, ◌++◌, map, length, Option, Some, None, refl, sym, ap, ap₂, ◌∙◌, arith, append-nil, eqb-true, eq-eqb, ne_eqb, inl, inr, ◌⊎◌, subst}
use Rattle.std.specs.Prelude.{◌==◌, nat_le, not}
use Rattle.std.specs.List.{AllByRecursion}
use Rattle.std.proofs.lemmas.Bool.{cases_Bool, eqb-false}
use Rattle.std.proofs.lemmas.List.{length-append}
use Rattle.xb_model.specs.declared.limits.Limits.{Limits}
use Rattle.xb_model.specs.declared.signal.TheConstants.{MOST_PULSES}
use Rattle.xb_model.specs.Numbers.{digit_of_count}
use Rattle.xb_calls.specs.Dialling.{pulse_count}
use Rattle.xb_calls.proofs.DialledRuns.{AllByRecursion-append}
use Rattle.xb_worn.specs.declared.fault.DigitPlace.{DigitPlace}
use Rattle.xb_worn.specs.declared.fault.Fault.{Fault}
use Rattle.xb_worn.specs.declared.fault.Fault.TheVariants.{Pulse}
use Rattle.xb_worn.specs.declared.fault.PulseFault.{PulseFault}
use Rattle.xb_worn.specs.declared.fault.PulseFault.TheVariants.{Break, Lost, Extra}
use Rattle.xb_worn.specs.declared.pulse.SentPulse.{SentPulse}
use Rattle.xb_worn.specs.declared.wear.Wear.{Wear}
use Rattle.xb_worn.specs.Faults.{pulse_fault, pulse_place, same_digit}
use Rattle.xb_worn.specs.FieldLaws.{ExtraPulse, IsGoodDigit, IsGoodPulse, LostPulse, heard_of_digit}
use Rattle.xb_worn.specs.HeardCalls.{are_good, digit_heard, digits_of, onto_digit}
use Rattle.xb_worn.specs.Sending.{ended, pulses_from, with_fault}
use Rattle.xb_worn.specs.Wears.{worn_pulse}

-- how many pulses a fault makes of one
abbrev size : PulseFault → ℕ
size (Break ms) = 1
size Lost = 0
size Extra = 2

-- a fault that leaves each pulse as it is
abbrev Keeps : PulseFault → Type 0
Keeps (Break ms) = ⊥
Keeps Lost = Unit {0}
Keeps Extra = Unit {0}

-- one fault, at one pulse of the digit
abbrev one_fault : DigitPlace → ℕ → PulseFault → List Fault
one_fault place k kind = Pulse (pulse_place place k) kind ∷ []

same-digit : (place : DigitPlace) → same_digit place place ≡ true
same-digit place = rw (eq-eqb place.call place.call refl, eq-eqb place.digit place.digit refl) refl

fault-here : (place : DigitPlace) (k n : ℕ) (kind : PulseFault) → k ≡ n
    → pulse_fault (pulse_place place n) (one_fault place k kind) ≡ Some kind
fault-here place k n kind e = rw (same-digit place, eq-eqb k n e) refl

fault-other : (place : DigitPlace) (k n : ℕ) (kind : PulseFault) → (k ≡ n → ⊥)
    → pulse_fault (pulse_place place n) (one_fault place k kind) ≡ None
fault-other place k n kind e = rw (same-digit place, ne_eqb k n e) refl

-- as many pulses as a fault makes of one
length-with : (kind : PulseFault) (pulse : SentPulse) → length (with_fault (Some kind) pulse) ≡ size kind
length-with (Break ms) pulse = refl
length-with Lost pulse = refl
length-with Extra pulse = refl

-- after the place there are as many pulses as the digit has
length-after : (wear : Wear) (place : DigitPlace) (state k : ℕ) (kind : PulseFault) (n before : ℕ) → k ≤ before
    → length (pulses_from wear (one_fault place k kind) place state before n) ≡ n
unfolding pulses_from
length-after wear place state k kind zero before past = refl
length-after wear place state k kind (suc n) before past =
    let rest = pulses_from wear (one_fault place k kind) place state (before + 1) n in
    ap (λ fault. length (with_fault fault (worn_pulse wear state before) ++ rest))
    (fault-other place k (before + 1) kind (λ e. omega (arith, e, past)))
    ∙ ap suc (length-after wear place state k kind n (before + 1) (omega (arith, past)))

-- with the place there is the difference that the fault makes
length-with-fault : (wear : Wear) (place : DigitPlace) (state k : ℕ) (kind : PulseFault) (n before : ℕ)
    → before < k → k ≤ before + n
    → length (pulses_from wear (one_fault place k kind) place state before n) + 1 ≡ n + size kind
unfolding pulses_from
length-with-fault wear place state k kind zero before low high = absurd (omega (arith, low, high))
length-with-fault wear place state k kind (suc n) before low high = elim (cases_Bool (k == before + 1)) [
  | inl here ↦
      let rest = pulses_from wear (one_fault place k kind) place state (before + 1) n in
      let at : k ≡ before + 1 = eqb-true k (before + 1) here in
      let pulse = worn_pulse wear state before in
      let fault = fault-here place k (before + 1) kind at in
      let faults = one_fault place k kind in
      let all : length (with_fault (pulse_fault (pulse_place place (before + 1)) faults) pulse ++ rest)
      ≡ size kind + length rest =
      ap (λ f. length (with_fault f pulse ++ rest)) fault
      ∙ length-append (with_fault (Some kind) pulse) rest
      ∙ ap (λ m. m + length rest) (length-with kind pulse) in
      let after : length rest ≡ n = length-after wear place state k kind n (before + 1) (omega (arith, at)) in
      omega (arith, all, after)
  | inr there ↦
      let rest = pulses_from wear (one_fault place k kind) place state (before + 1) n in
      let other : k ≡ before + 1 → ⊥ = eqb-false k (before + 1) there in
      let pulse = worn_pulse wear state before in
      let fault = fault-other place k (before + 1) kind other in
      let faults = one_fault place k kind in
      let all : length (with_fault (pulse_fault (pulse_place place (before + 1)) faults) pulse ++ rest)
      ≡ suc (length rest) = ap (λ f. length (with_fault f pulse ++ rest)) fault in
      let later : length rest + 1 ≡ n + size kind =
      length-with-fault wear place state k kind n (before + 1) (omega (arith, low, other)) (omega (arith, high)) in
      omega (arith, all, later)
]

-- the pulses are good
abbrev AreGoodPulses : Limits → List SentPulse → Type 0
AreGoodPulses limits pulses = AllByRecursion (IsGoodPulse limits) pulses

good-with : (limits : Limits) (fault : Option PulseFault) (pulse : SentPulse)
    → ((kind : PulseFault) → fault ≡ Some kind → Keeps kind) → IsGoodPulse limits pulse
    → AreGoodPulses limits (with_fault fault pulse)
good-with limits None pulse keeps good = (good, tt)
good-with limits (Some (Break ms)) pulse keeps good = absurd (keeps (Break ms) refl)
good-with limits (Some Lost) pulse keeps good = tt
good-with limits (Some Extra) pulse keeps good = (good, (good, tt))

good-pulses : (limits : Limits) (wear : Wear) (place : DigitPlace) (state k : ℕ) (kind : PulseFault) → Keeps kind
    → IsGoodDigit limits wear state → (n before : ℕ) → before + n ≤ MOST_PULSES
    → AreGoodPulses limits (pulses_from wear (one_fault place k kind) place state before n)
unfolding pulses_from
good-pulses limits wear place state k kind keeps good zero before few = tt
good-pulses limits wear place state k kind keeps good (suc n) before few =
    AllByRecursion-append (IsGoodPulse limits) _ _
    (good-with limits (pulse_fault (pulse_place place (before + 1)) (one_fault place k kind))
    (worn_pulse wear state before) (λ other e. kept other e (cases_Bool (k == before + 1)))
    (good.pulses before (omega (arith, few))))
    (good-pulses limits wear place state k kind keeps good n (before + 1) (omega (arith, few)))
  where
    kept : (other : PulseFault) → pulse_fault (pulse_place place (before + 1)) (one_fault place k kind) ≡ Some other
        → ((k == before + 1) ≡ true) ⊎ ((k == before + 1) ≡ false)
        → Keeps other
    kept other e (inl here) =
        let same : Some kind ≡ Some other =
        sym (fault-here place k (before + 1) kind (eqb-true k (before + 1) here)) ∙ e in
        let is : kind ≡ other = cc in
        subst Keeps is keeps
    kept other e (inr there) =
        absurd (none other (sym (fault-other place k (before + 1) kind (eqb-false k (before + 1) there)) ∙ e))
      where
        none : (one : PulseFault) → None ≡ Some one → ⊥
        none one h = cc

-- good pulses with a pause after them are one digit
digits-ended : (limits : Limits) (pause : ℕ) → nat_le limits.pause pause ≡ true → (pulse : SentPulse)
    (pulses : List SentPulse)
    → AreGoodPulses limits (pulse ∷ pulses)
    → digits_of limits (ended pause (pulse ∷ pulses)) ≡ ended pause (pulse ∷ pulses) ∷ []
digits-ended limits pause long pulse [] good = rw long refl
digits-ended limits pause long pulse (next ∷ more) good =
    rw good.0.short (ap (onto_digit pulse) (digits-ended limits pause long next more good.1))

good-ended : (limits : Limits) (pause : ℕ) (pulses : List SentPulse) → AreGoodPulses limits pulses
    → are_good limits (ended pause pulses) ≡ true
good-ended limits pause [] good = refl
good-ended limits pause (pulse ∷ []) good = good.0.break_is
good-ended limits pause (pulse ∷ next ∷ []) good = rw (good.0.break_is, good.0.apart) good.1.0.break_is
good-ended limits pause (pulse ∷ next ∷ third ∷ more) good =
    rw (good.0.break_is, good.0.apart) (good-ended limits pause (next ∷ third ∷ more) good.1)

length-ended : (pause : ℕ) (pulses : List SentPulse) → length (ended pause pulses) ≡ length pulses
length-ended pause [] = refl
length-ended pause (pulse ∷ []) = refl
length-ended pause (pulse ∷ next ∷ more) = ap suc (length-ended pause (next ∷ more))

heard-ended : (limits : Limits) (pause : ℕ) → nat_le limits.pause pause ≡ true → (pulses : List SentPulse)
    → 1 ≤ length pulses → AreGoodPulses limits pulses
    → map (digit_heard limits) (digits_of limits (ended pause pulses)) ≡ digit_of_count (length pulses) false ∷ []
heard-ended limits pause long [] some good = absurd (omega (arith, some))
heard-ended limits pause long (pulse ∷ pulses) some good =
    ap (map (digit_heard limits)) (digits-ended limits pause long pulse pulses good)
    ∙ ap₂ (λ count fine. digit_of_count count (not fine) ∷ []) (length-ended pause (pulse ∷ pulses))
    (good-ended limits pause (pulse ∷ pulses) good)

changed : (limits : Limits) (wear : Wear) (place : DigitPlace) (state digit k : ℕ) (kind : PulseFault) (count : ℕ)
    → Keeps kind → IsGoodDigit limits wear state → pulse_count digit ≤ MOST_PULSES → 1 ≤ k
    → k ≤ pulse_count digit → count + 1 ≡ pulse_count digit + size kind → 1 ≤ count
    → heard_of_digit limits wear (one_fault place k kind) place state digit ≡ digit_of_count count false ∷ []
changed limits wear place state digit k kind count keeps good few low high counts some =
    let pulses = pulses_from wear (one_fault place k kind) place state 0 (pulse_count digit) in
    let long : length pulses + 1 ≡ pulse_count digit + size kind =
    length-with-fault wear place state k kind (pulse_count digit) 0 (omega (arith, low)) (omega (arith, high)) in
    let many : length pulses ≡ count = omega (arith, long, counts) in
    ap (λ ps. map (digit_heard limits) (digits_of limits ps)) (append-nil (ended wear.speed.pause_ms pulses))
    ∙ heard-ended limits wear.speed.pause_ms good.pause pulses (omega (arith, many, some))
    (good-pulses limits wear place state k kind keeps good (pulse_count digit) 0 (omega (arith, few)))
    ∙ ap (λ n. digit_of_count n false ∷ []) many

pub lost_pulse : LostPulse
lost_pulse limits wear place state digit k good two few low high =
    changed limits wear place state digit k Lost (pulse_count digit - 1) tt good few low high (omega (arith, two))
    (omega (arith, two))

pub extra_pulse : ExtraPulse
extra_pulse limits wear place state digit k good few low high =
    changed limits wear place state digit k Extra (pulse_count digit + 1) tt good few low high (omega arith)
    (omega arith)
