-- Faults that stand in other calls change nothing in a call.
use Rattle.std.proofs.Common.{◌≡◌, ℕ, zero, suc, ◌+◌, Bool, true, false, List, [], ◌∷◌, ◌++◌, None, refl, sym, ap₂}
use Rattle.std.specs.Prelude.{◌||◌}
use Rattle.std.specs.List.{list_any}
use Rattle.xb_calls.specs.Dialling.{pulse_count}
use Rattle.xb_chance.specs.Words.{state_after, word_of}
use Rattle.xb_worn.specs.declared.fault.Fault.{Fault}
use Rattle.xb_worn.specs.declared.fault.Fault.TheVariants.{Pulse, Digit, Preliminary}
use Rattle.xb_worn.specs.declared.wear.Wear.{Wear}
use Rattle.xb_worn.specs.Faults.{digit_fault, digit_place, preliminary_of, pulse_fault, pulse_place, stands_in}
use Rattle.xb_worn.specs.Sending.{SendsAsWith, ended, flash_after, pause_after, preliminary, pulses_from, sent_digits, with_fault}
use Rattle.xb_worn.specs.Wears.{worn_pulse}

-- neither of two tests
neither : (a b : Bool) → (a || b) ≡ false → (a ≡ false) × (b ≡ false)
neither true b none = absurd (cc none)
neither false b none = (refl, none)

no-pulse : (number digit pulse : ℕ) (faults : List Fault) → list_any (stands_in number) faults ≡ false
    → pulse_fault (pulse_place (digit_place number digit) pulse) faults ≡ None
no-pulse number digit pulse [] none = refl
no-pulse number digit pulse (Pulse at kind ∷ faults) none =
    let parts = neither (stands_in number (Pulse at kind)) (list_any (stands_in number) faults) none in
    rw parts.0 (no-pulse number digit pulse faults parts.1)
no-pulse number digit pulse (Digit at kind ∷ faults) none =
    no-pulse number digit pulse faults
    (neither (stands_in number (Digit at kind)) (list_any (stands_in number) faults) none).1
no-pulse number digit pulse (Preliminary call ms ∷ faults) none =
    no-pulse number digit pulse faults
    (neither (stands_in number (Preliminary call ms)) (list_any (stands_in number) faults) none).1

no-digit : (number digit : ℕ) (faults : List Fault) → list_any (stands_in number) faults ≡ false
    → digit_fault (digit_place number digit) faults ≡ None
no-digit number digit [] none = refl
no-digit number digit (Pulse at kind ∷ faults) none =
    no-digit number digit faults
    (neither (stands_in number (Pulse at kind)) (list_any (stands_in number) faults) none).1
no-digit number digit (Digit at kind ∷ faults) none =
    let parts = neither (stands_in number (Digit at kind)) (list_any (stands_in number) faults) none in
    rw parts.0 (no-digit number digit faults parts.1)
no-digit number digit (Preliminary call ms ∷ faults) none =
    no-digit number digit faults
    (neither (stands_in number (Preliminary call ms)) (list_any (stands_in number) faults) none).1

no-preliminary : (number : ℕ) (faults : List Fault) → list_any (stands_in number) faults ≡ false
    → preliminary_of number faults ≡ None
no-preliminary number [] none = refl
no-preliminary number (Pulse at kind ∷ faults) none =
    no-preliminary number faults
    (neither (stands_in number (Pulse at kind)) (list_any (stands_in number) faults) none).1
no-preliminary number (Digit at kind ∷ faults) none =
    no-preliminary number faults
    (neither (stands_in number (Digit at kind)) (list_any (stands_in number) faults) none).1
no-preliminary number (Preliminary call ms ∷ faults) none =
    let parts = neither (stands_in number (Preliminary call ms)) (list_any (stands_in number) faults) none in
    rw parts.0 (no-preliminary number faults parts.1)

module _ (wear : Wear) (number : ℕ) (faults : List Fault) (none : list_any (stands_in number) faults ≡ false) where
  -- the pulses of a digit
  pulses-same : (digit state n before : ℕ)
      → pulses_from wear [] (digit_place number digit) state before n
      ≡ pulses_from wear faults (digit_place number digit) state before n
  unfolding pulses_from
  pulses-same digit state zero before = refl
  pulses-same digit state (suc n) before =
      ap₂ (λ fault rest. with_fault fault (worn_pulse wear state before) ++ rest)
      (sym (no-pulse number digit (before + 1) faults none)) (pulses-same digit state n (before + 1))

  -- the digits of the call
  digits-same : (state first : ℕ) (digits : List ℕ)
      → sent_digits wear [] number state first digits ≡ sent_digits wear faults number state first digits
  digits-same state first [] = refl
  digits-same state first (digit ∷ digits) =
      let next : ℕ = state_after state 1 in
      ap₂ (λ own rest. own ++ rest)
      (ap₂ (λ fault pulses. ended (pause_after fault wear.speed.pause_ms) pulses
      ++ flash_after fault wear.speed.pause_ms)
      (sym (no-digit number first faults none)) (pulses-same first (word_of next) (pulse_count digit) 0))
      (digits-same next (first + 1) digits)

-- the call
pub sends-without : (number : ℕ) (faults : List Fault) → list_any (stands_in number) faults ≡ false
    → SendsAsWith number faults []
sends-without number faults none wear state digits =
    ap₂ (λ ms pulses. preliminary ms wear.speed.pause_ms ++ pulses) (sym (no-preliminary number faults none))
    (digits-same wear number faults none state 1 digits)
