-- The objects of attempts have no float.
use Rattle.std.proofs.Common.{◌≡◌, ◌+◌, ℕ, false, List, [], ◌∷◌, Bool, Option, Some, None, refl}
use Rattle.serde_json.specs.Data.{Data, number, unsigned}
use Rattle.serde_json.specs.View.{items_of}
use Rattle.serde_json.specs.Written.{has_float, items_have_float}
use Rattle.xb_model.specs.declared.dialled.Dialled.{Dialled}
use Rattle.xb_model.specs.declared.dialled.Dialled.TheVariants as dialled
use Rattle.xb_model.specs.declared.limits.Limits.{Limits}
use Rattle.xb_heard.specs.declared.fault.Spoiler.{Spoiler}
use Rattle.xb_heard.specs.declared.figures.Times.{Times}
use Rattle.xb_heard.specs.declared.row.DigitRow.{DigitRow}
use Rattle.xb_heard.specs.declared.run.PlacedRun.{PlacedRun}
use Rattle.xb_heard.specs.Attempts.{AttemptOfRuns}
use Rattle.xb_heard.specs.Digits.{DigitOfRuns}
use Rattle.xb_heard.specs.DigitRows.{row_of}
use Rattle.xb_heard.specs.Figures.{times_of, whole_periods}
use Rattle.xb_report.specs.Words.{is_taken}
use Rattle.xb_hear.specs.Objects.{attempt_object, count_value, digits_from, end_object, extent_object, fault_object, first_run, number_in, object_of_row, or_null, reason_in, run_object, text_line}

none-or-null : {A : Type 0} (value_of : A → Data) → ((item : A) → has_float (value_of item) ≡ false) → (found : Option A)
    → has_float (or_null value_of found) ≡ false
none-or-null value_of none None = refl
none-or-null value_of none (Some item) = none item

none-in-place : (before : Option ℕ) (run : PlacedRun) → has_float (text_line before run) ≡ false
none-in-place before run = none-or-null (λ lines. count_value (lines + run.first_record)) (λ lines. refl) before

none-in-run : (before : Option ℕ) (run : PlacedRun) → has_float (run_object before run) ≡ false
none-in-run before run = rw (none-in-place before run) refl

none-in-first : (before : Option ℕ) (runs : List PlacedRun) → has_float (first_run before runs) ≡ false
none-in-first before [] = refl
none-in-first before (run ∷ rest) = none-in-run before run

none-in-fault : (before : Option ℕ) (limits : Limits) (spoiler : Spoiler) → has_float (fault_object before limits spoiler) ≡ false
none-in-fault before limits spoiler = rw (none-in-place before spoiler.run) refl

none-in-row : (before : Option ℕ) (limits : Limits) (taken : Bool) (row : DigitRow) (periods : Times) (spoiler : Option Spoiler)
    → has_float (object_of_row before limits taken row periods spoiler) ≡ false
none-in-row before limits taken row periods spoiler =
    rw (
      none-or-null extent_object (λ extent. refl) row.breaks,
      none-or-null (λ digit. number (unsigned digit)) (λ digit. refl) row.name,
      none-or-null (fault_object before limits) (none-in-fault before limits) spoiler,
      none-or-null extent_object (λ extent. refl) row.makes,
      none-or-null count_value (λ n. refl) row.share,
      none-or-null count_value (λ n. refl) row.speed,
    ) refl

none-in-digits : (before : Option ℕ) (limits : Limits) (outcome : Dialled) (k : ℕ) (digits : List DigitOfRuns)
    → items_have_float (items_of (digits_from before limits outcome k digits)) ≡ false
none-in-digits before limits outcome k [] = refl
none-in-digits before limits outcome k (digit ∷ digits) =
    rw (none-in-row before limits (is_taken outcome k) (row_of (is_taken outcome k) digit) (times_of (whole_periods digit.pulses)) digit.spoiler)
    (none-in-digits before limits outcome (k + 1) digits)

none-in-number : (outcome : Dialled) → has_float (number_in outcome) ≡ false
none-in-number (dialled.Number digits) = refl
none-in-number (dialled.Refused reason heard) = refl

none-in-reason : (outcome : Dialled) → has_float (reason_in outcome) ≡ false
none-in-reason (dialled.Number digits) = refl
none-in-reason (dialled.Refused reason heard) = refl

none-in-end : (before : Option ℕ) (attempt : AttemptOfRuns) → has_float (end_object before attempt) ≡ false
none-in-end before attempt =
    rw (
      none-or-null (run_object before) (none-in-run before) attempt.release,
      none-or-null (run_object before) (none-in-run before) attempt.timeout,
      none-in-first before attempt.unfinished,
    ) refl

pub no-floats : (before : Option ℕ) (limits : Limits) (line n : ℕ) (attempt : AttemptOfRuns)
    → has_float (attempt_object before limits line n attempt) ≡ false
no-floats before limits line n attempt =
    rw (
      none-in-first before attempt.runs,
      none-in-digits before limits attempt.outcome 0 attempt.digits,
      none-in-end before attempt,
      none-in-number attempt.outcome,
      none-in-reason attempt.outcome,
    ) refl
