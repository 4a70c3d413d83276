-- What is still to be sent from a phase on: the signals of a record begun in its middle, and what a
-- first run adds to them.
use Rattle.std.proofs.Common.{◌≡◌, ℕ, suc, ◌+◌, ◌<◌, ◌≤◌, min, List, [], ◌∷◌, ◌++◌, map, true, ◌||◌, refl, arith, append_assoc, zero-add}
use Rattle.std.specs.List.{filter, flat_map}
use Rattle.std.proofs.Math.Bool.{or-false, or_assoc}
use Rattle.std.proofs.lemmas.Bool.{le-leb, lt-leb}
use Rattle.xb_model.specs.declared.row.Contact.TheVariants.{Brk}
use Rattle.xb_model.specs.declared.limits.Limits.{Limits}
use Rattle.xb_model.specs.declared.signal.Signal.{Signal}
use Rattle.xb_model.specs.declared.signal.Signal.TheVariants.{Seize, Digit, TimeOut, Release, Close}
use Rattle.xb_model.specs.declared.signal.TheConstants.{MANY_BREAKS}
use Rattle.xb_model.specs.Records.{Run, Attempt, Train, join, without_first_break, into_first, pieces_of, has_runs, heard, is_timed, onto_first, cut_at_pauses, trains_of, make, break}
use Rattle.xb_model.specs.Signals.{breaks_in, is_bad_run, is_bad_train, digit_signal, when, attempt_signals}
use Rattle.xb_pulse.specs.declared.state.Tally.{Tally}
use Rattle.xb_pulse.specs.declared.state.Phase.{Phase}
use Rattle.xb_pulse.specs.declared.state.Phase.TheVariants.{OnHook, BetweenTrains, InBreak, InMake, TimedOut, Closed}
use Rattle.xb_pulse.specs.Machine.{no_breaks, with_break, with_make}

-- the signals of these pieces, and the close
abbrev pub all_of : Limits → List Attempt → List Signal
all_of L pieces = flat_map (attempt_signals L) (filter (λ piece. has_runs piece.runs) pieces) ++ Close ∷ []

-- how the first piece ends, and the signals of the others
abbrev pub ending : Limits → Attempt → List Attempt → List Signal
ending L piece pieces =
    (when (is_timed L piece.runs) TimeOut ++ when piece.released Release) ++ all_of L pieces

-- what is to be sent after the seizure of the first piece
abbrev pub after_seizure : Limits → List Attempt → List Signal
after_seizure L [] = Close ∷ []
after_seizure L (piece ∷ pieces) = map (digit_signal L) (trains_of L piece.runs) ++ ending L piece pieces

-- the digits of trains, of which the first began with what the tally counts
abbrev pub digits : Limits → Tally → List Train → List Signal
digits L tally [] = []
digits L tally (train ∷ trains) =
    Digit (min (tally.breaks + breaks_in train) MANY_BREAKS) (tally.bad || is_bad_train L train)
    ∷ map (digit_signal L) trains

-- what is to be sent inside a train of the first piece, of which the tally counts a part
abbrev pub in_train : Limits → Tally → List Attempt → List Signal
in_train L tally [] = Close ∷ []
in_train L tally (piece ∷ pieces) =
    digits L tally (cut_at_pauses L (heard L piece.runs)) ++ ending L piece pieces

-- what is to be sent after a time-out in the first piece
abbrev pub after_timeout : Limits → List Attempt → List Signal
after_timeout L [] = Close ∷ []
after_timeout L (piece ∷ pieces) = when piece.released Release ++ all_of L pieces

-- what is to be sent from a phase on, where these runs are still to come
abbrev pub to_send : Limits → Phase → List Run → List Signal
to_send L OnHook R = all_of L (pieces_of L (without_first_break R))
to_send L (BetweenTrains t) R = after_seizure L (pieces_of L (join (make t) R))
to_send L (InBreak t tally) R = in_train L tally (pieces_of L (join (break t) R))
to_send L (InMake t tally) R = in_train L tally (pieces_of L (join (make t) R))
to_send L (TimedOut t) R = after_timeout L (pieces_of L (join (break t) R))
to_send L Closed R = []

-- a run before the pieces

-- a run before the first piece seizes the line
pub all_of-after_seizure :
    (L : Limits) (run : Run) (P : List Attempt)
    → all_of L (into_first run P) ≡ Seize ∷ after_seizure L (into_first run P)
all_of-after_seizure L run [] = simp append_assoc
all_of-after_seizure L run (p ∷ P) = simp append_assoc

-- a first make of `timeout` or more times out
pub after_seizure-timed :
    (L : Limits) (y : ℕ) (P : List Attempt) → L.timeout ≤ y
    → after_seizure L (into_first (make y) P) ≡ TimeOut ∷ after_timeout L P
after_seizure-timed L y [] h = rw (le-leb L.timeout y h)
after_seizure-timed L y (p ∷ P) h = rw (le-leb L.timeout y h)

-- where the tally counts nothing, the digits are those of the trains
digits-none : (L : Limits) (ts : List Train) → map (digit_signal L) ts ≡ digits L no_breaks ts
digits-none L [] = refl
digits-none L (t ∷ ts) = rw zero-add

-- a shorter first make is followed by the trains
pub after_seizure-make :
    (L : Limits) (t : ℕ) (P : List Attempt) → t < L.timeout
    → after_seizure L (into_first (make t) P) ≡ in_train L no_breaks P
after_seizure-make L t [] h = rw (lt-leb L.timeout t h)
after_seizure-make L t (p ∷ P) h = rw (lt-leb L.timeout t h, digits-none L (cut_at_pauses L (heard L p.runs)))

-- a make of `pause` or more ends the train
pub in_train-pause :
    (L : Limits) (tally : Tally) (y : ℕ) (P : List Attempt) → tally.breaks ≤ MANY_BREAKS → L.pause ≤ y
    → in_train L tally (into_first (make y) P)
    ≡ Digit tally.breaks tally.bad ∷ after_seizure L (into_first (make y) P)
in_train-pause L tally y [] n h =
    let e : min (tally.breaks + 0) MANY_BREAKS ≡ tally.breaks = omega arith in
    rw (le-leb L.pause y h, or-false tally.bad, e)
in_train-pause L tally y (p ∷ P) n h =
    let e : min (tally.breaks + 0) MANY_BREAKS ≡ tally.breaks = omega arith in
    rw (le-leb L.pause y h, or-false tally.bad, e)

-- a make before the first train is counted in the tally
digits-make :
    (L : Limits) (tally : Tally) (t : ℕ) (ts : List Train)
    → digits L tally (onto_first (make t) ts) ≡ digits L (with_make L t tally) ts
digits-make L tally t [] = refl
digits-make L tally t (x ∷ ts) = rw or_assoc

-- and so is a break
digits-break :
    (L : Limits) (tally : Tally) (t : ℕ) (ts : List Train)
    → digits L tally (onto_first (break t) ts) ≡ digits L (with_break L t tally) ts
digits-break L tally t [] = refl
digits-break L tally t (x ∷ ts) =
    let e :
    min (tally.breaks + suc (breaks_in x)) MANY_BREAKS
    ≡ min (min (tally.breaks + 1) MANY_BREAKS + breaks_in x) MANY_BREAKS =
    omega arith in
    rw (e, or_assoc tally.bad (is_bad_run L Brk t) (is_bad_train L x))

-- a shorter make stays in the train, and is counted in the tally
pub in_train-make :
    (L : Limits) (tally : Tally) (t : ℕ) (P : List Attempt) → t < L.pause → t < L.timeout
    → in_train L tally (into_first (make t) P) ≡ in_train L (with_make L t tally) P
in_train-make L tally t [] h k = rw (lt-leb L.pause t h, lt-leb L.timeout t k)
in_train-make L tally t (p ∷ P) h k =
    rw (lt-leb L.pause t h, lt-leb L.timeout t k, digits-make L tally t (cut_at_pauses L (heard L p.runs)))

-- and so does a break
pub in_train-break :
    (L : Limits) (tally : Tally) (t : ℕ) (P : List Attempt)
    → in_train L tally (into_first (break t) P) ≡ in_train L (with_break L t tally) P
in_train-break L tally t [] = refl
in_train-break L tally t (p ∷ P) = rw (digits-break L tally t (cut_at_pauses L (heard L p.runs)))

-- after a time-out a run adds nothing
pub after_timeout-run :
    (L : Limits) (run : Run) (P : List Attempt) → after_timeout L (into_first run P) ≡ after_timeout L P
after_timeout-run L run [] = refl
after_timeout-run L run (p ∷ P) = refl

-- a break of `release` or more cuts
pub pieces_of-release :
    (L : Limits) (y : ℕ) (R : List Run) → L.release ≤ y
    → pieces_of L (break y ∷ R) ≡ record { runs = []; released = true } ∷ pieces_of L R
pieces_of-release L y R h = rw (le-leb L.release y h)
