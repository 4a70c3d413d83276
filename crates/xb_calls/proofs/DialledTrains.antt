-- The pulses of a digit are a train, whose digit is that digit.
use Rattle.std.proofs.Common.{◌≡◌, ℕ, zero, suc, ◌<◌, ◌%◌, true, false, List, [], ◌∷◌, ◌++◌, map, Some, refl, ap, ◌∙◌, arith, le-leb, le-ltb, ne_eqb, mod-eq_of_lt}
use Rattle.std.specs.Prelude.{nat_le, nat_lt}
use Rattle.std.specs.List.{flat_map}
use Rattle.std.proofs.lemmas.Bool.{cond-false, lt-leb}
use Rattle.xb_model.specs.declared.digit.TheConstants.{DIGITS}
use Rattle.xb_model.specs.declared.limits.Limits.{Limits}
use Rattle.xb_model.specs.Numbers.{digit_of_count, digit_of_train}
use Rattle.xb_model.specs.Records.{Run, Train, break, make, cut_at_pauses}
use Rattle.xb_model.specs.Signals.{breaks_in, is_bad_train}
use Rattle.xb_calls.specs.declared.speed.Speed.{Speed}
use Rattle.xb_calls.specs.Speeds.{Fits}
use Rattle.xb_calls.specs.Dialling.{digit_runs, pulse_count, pulses}

-- n breaks, with a make between two of them
unfoldable pub inner_of : Speed → ℕ → List Run
inner_of speed zero = []
inner_of speed (suc zero) = break speed.break_ms ∷ []
inner_of speed (suc (suc n)) = break speed.break_ms ∷ make speed.make_ms ∷ inner_of speed (suc n)

abbrev pub train_of : Speed → ℕ → Train
train_of speed n = record { inner = inner_of speed n; last = make speed.pause_ms }

-- pulses are cut into their train, and what comes after them
cut-pulses : (limits : Limits) (speed : Speed) → Fits limits speed → (n : ℕ) (rest : List Run)
    → cut_at_pauses limits (pulses speed (suc n) ++ rest) ≡ train_of speed (suc n) ∷ cut_at_pauses limits rest
unfolding pulses inner_of
cut-pulses limits speed fits zero rest =
    let pause : nat_le limits.pause speed.pause_ms ≡ true = le-leb _ _ fits.pause_fits.0 in
    rw pause refl
cut-pulses limits speed fits (suc n) rest =
    let make : nat_le limits.pause speed.make_ms ≡ false = lt-leb _ _ fits.make_fits.1 in
    rw (make, cut-pulses limits speed fits n rest) refl

-- each digit has a pulse
pulse_count-suc : (digit : ℕ) → pulse_count (suc digit) ≡ suc digit
pulse_count-suc digit = cond-false _ _ _ (ne_eqb (suc digit) 0 (λ e. omega arith))

-- the train of a digit, and what comes after it
cut-digit : (limits : Limits) (speed : Speed) → Fits limits speed → (digit : ℕ) (rest : List Run)
    → cut_at_pauses limits (digit_runs speed digit ++ rest)
    ≡ train_of speed (pulse_count digit) ∷ cut_at_pauses limits rest
cut-digit limits speed fits zero rest = cut-pulses limits speed fits 9 rest
cut-digit limits speed fits (suc digit) rest = rw (pulse_count-suc digit)
    (cut-pulses limits speed fits digit rest)

-- the trains of a number
pub cut-number : (limits : Limits) (speed : Speed) → Fits limits speed → (number : List ℕ)
    → cut_at_pauses limits (flat_map (digit_runs speed) number)
    ≡ map (λ digit. train_of speed (pulse_count digit)) number
cut-number limits speed fits [] = refl
cut-number limits speed fits (digit ∷ number) =
    cut-digit limits speed fits digit (flat_map (digit_runs speed) number)
    ∙ ap (λ trains. train_of speed (pulse_count digit) ∷ trains) (cut-number limits speed fits number)

-- a train has as many breaks as there are pulses
breaks-train : (speed : Speed) (n : ℕ) → breaks_in (train_of speed n) ≡ n
unfolding inner_of
breaks-train speed zero = refl
breaks-train speed (suc zero) = refl
breaks-train speed (suc (suc n)) = ap suc (breaks-train speed (suc n))

-- no run of it is out of its limits
good-train : (limits : Limits) (speed : Speed) → Fits limits speed → (n : ℕ)
    → is_bad_train limits (train_of speed n) ≡ false
unfolding inner_of
good-train limits speed fits zero = refl
good-train limits speed fits (suc zero) =
    let long : nat_lt speed.break_ms limits.pulse_min ≡ false = le-ltb _ _ fits.break_fits.0 in
    let short : nat_lt limits.pulse_max speed.break_ms ≡ false = le-ltb _ _ fits.break_fits.1 in
    rw (long, short) refl
good-train limits speed fits (suc (suc n)) =
    let long : nat_lt speed.break_ms limits.pulse_min ≡ false = le-ltb _ _ fits.break_fits.0 in
    let short : nat_lt limits.pulse_max speed.break_ms ≡ false = le-ltb _ _ fits.break_fits.1 in
    let apart : nat_lt speed.make_ms limits.make_min ≡ false = le-ltb _ _ fits.make_fits.0 in
    rw (long, short, apart) (good-train limits speed fits (suc n))

-- so many good pulses are the digit
digit-count : (digit : ℕ) → digit < DIGITS → digit_of_count (pulse_count digit) false ≡ Some digit
digit-count zero below = refl
digit-count (suc digit) below =
    let some : nat_le 1 (suc digit) ≡ true = le-leb _ _ (omega arith) in
    let few : nat_le (suc digit) 10 ≡ true = le-leb _ _ (omega arith) in
    let same : suc digit % 10 ≡ suc digit = mod-eq_of_lt (omega arith) in
    rw (pulse_count-suc digit, some, few, same) refl

-- the digit of a digit's train
pub digit-train : (limits : Limits) (speed : Speed) → Fits limits speed → (digit : ℕ) → digit < DIGITS
    → digit_of_train limits (train_of speed (pulse_count digit)) ≡ Some digit
digit-train limits speed fits digit below =
    rw (breaks-train speed (pulse_count digit), good-train limits speed fits (pulse_count digit))
    (digit-count digit below)
