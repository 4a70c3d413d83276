-- The signals of a record.
use Rattle.std.specs.Prelude.{ℕ, min, List, [], ◌∷◌, ◌++◌, map, length, Bool, false, ◌||◌, if◌then◌else◌, nat_lt}
use Rattle.std.specs.List.{filter, list_any, flat_map}
use Rattle.xb_model.specs.declared.limits.Limits.{Limits}
use Rattle.xb_model.specs.declared.row.Contact.{Contact}
use Rattle.xb_model.specs.declared.row.Contact.TheVariants as contacts
use Rattle.xb_model.specs.declared.signal.Signal.{Signal}
use Rattle.xb_model.specs.declared.signal.Signal.TheVariants.{Seize, Digit, TimeOut, Release, Close}
use Rattle.xb_model.specs.declared.signal.TheConstants.{MANY_BREAKS}
use Rattle.xb_model.specs.Records.{Run, Attempt, Train, is_break, attempts_of, trains_of, is_timed}

-- how many breaks a train has
abbrev pub breaks_in : Train → ℕ
breaks_in train = length (filter is_break train.inner)

-- a break that is not `pulse_min` to `pulse_max`, or a make under `make_min`
abbrev pub is_bad_run : Limits → Contact → ℕ → Bool
is_bad_run limits contacts.Brk ms = nat_lt ms limits.pulse_min || nat_lt limits.pulse_max ms
is_bad_run limits contacts.Make ms = nat_lt ms limits.make_min
is_bad_run limits contacts.Close ms = false

-- whether one of the breaks, or of the makes but the last, is out of its limits
abbrev pub is_bad_train : Limits → Train → Bool
is_bad_train limits train = list_any (λ run. is_bad_run limits run.contact run.ms) train.inner

abbrev pub digit_signal : Limits → Train → Signal
digit_signal limits train = Digit (min (breaks_in train) MANY_BREAKS) (is_bad_train limits train)

abbrev pub when : Bool → Signal → List Signal
when test signal = if test then signal ∷ [] else []

-- the signals of one attempt
abbrev pub attempt_signals : Limits → Attempt → List Signal
attempt_signals limits attempt =
    Seize ∷ (map (digit_signal limits) (trains_of limits attempt.runs)
    ++ (when (is_timed limits attempt.runs) TimeOut ++ when attempt.released Release))

-- the signals of a record: those of each attempt, and at the end the close
abbrev pub signals_of : Limits → List Run → List Signal
signals_of limits record_ = flat_map (attempt_signals limits) (attempts_of limits record_) ++ Close ∷ []
