-- Each row of 1 ms or more sends the beginning of what is to be sent.
use Rattle.std.proofs.Common.{◌≡◌, ℕ, ◌+◌, ◌<◌, ◌≤◌, min, List, [], ◌∷◌, ◌++◌, Bool, true, false, nat_le, refl, ap, sym, arith, zero-add}
use Rattle.std.proofs.lemmas.Bool.{cond_both, lt-leb, leb-true, leb-false}
use Rattle.xb_model.specs.declared.row.Contact.{Contact}
use Rattle.xb_model.specs.declared.row.Contact.TheVariants.{Make, Brk}
use Rattle.xb_model.specs.declared.row.Contact.TheVariants as contacts
use Rattle.xb_model.specs.declared.limits.Limits.{Limits}
use Rattle.xb_model.specs.declared.limits.TheConstants.{GREATEST_LIMIT}
use Rattle.xb_model.specs.declared.signal.Signal.{Signal}
use Rattle.xb_model.specs.declared.signal.Signal.TheVariants.{Seize, Digit, TimeOut, Release, Close}
use Rattle.xb_model.specs.declared.signal.TheConstants.{MANY_BREAKS}
use Rattle.xb_model.specs.Records.{Run, Attempt, join, without_first_break, into_first, pieces_of, make, break, run_of}
use Rattle.xb_model.specs.LawfulLimits.{IsLawful}
use Rattle.xb_pulse.specs.declared.state.Tally.{Tally}
use Rattle.xb_pulse.specs.declared.state.Phase.{Phase}
use Rattle.xb_pulse.specs.declared.state.Phase.TheVariants.{OnHook, BetweenTrains, InBreak, InMake, TimedOut, Closed}
use Rattle.xb_pulse.specs.declared.step.Step.{Step}
use Rattle.xb_pulse.specs.Machine.{enter, with_first, longer, no_breaks, with_break, with_make, judge_timeout, judge_pause, take_make, release_at, judge_release, take_break}
use Rattle.xb_model.proofs.Cuts.{join_sum}
use Rattle.xb_pulse.proofs.JoinedRuns.{ms_taken_in, runs_left, join_is, without_first_break_is}
use Rattle.xb_pulse.proofs.RemainingSignals.{all_of, after_seizure, in_train, after_timeout, to_send, all_of-after_seizure, after_seizure-timed, after_seizure-make, in_train-pause, in_train-make, in_train-break, after_timeout-run, pieces_of-release}

-- a phase of an open record: no length has reached the limit that would have ended it
abbrev pub IsOpen : Limits → Phase → Type 0
IsOpen L OnHook = Unit {0}
IsOpen L (BetweenTrains t) = t < L.timeout
IsOpen L (InBreak t tally) = (t < L.release) × (tally.breaks ≤ MANY_BREAKS)
IsOpen L (InMake t tally) = (t < L.pause) × (tally.breaks ≤ MANY_BREAKS)
IsOpen L (TimedOut t) = t < L.release
IsOpen L Closed = ⊥

-- `all` is what the step sends, and then what its phase has still to send
abbrev pub BeginsWith : Limits → Step → List Run → List Signal → Type 0
BeginsWith L step R all = all ≡ step.sent.items ++ to_send L step.phase R

-- after a time-out the rest of the make adds nothing
after_timeout-make :
    (L : Limits) (R : List Run) → 0 < L.release
    → after_timeout L (pieces_of L (join (break 0) R)) ≡ after_timeout L (pieces_of L (runs_left Make R))
after_timeout-make L [] h = rw (lt-leb L.release 0 h)
after_timeout-make L (q ∷ R) h = at q.contact
  where
    at :
        (c : Contact)
        → after_timeout L (pieces_of L (join (break 0) (run_of c q.ms ∷ R)))
        ≡ after_timeout L (pieces_of L (runs_left Make (run_of c q.ms ∷ R)))
    at Make =
        rw (
          lt-leb L.release 0 h,
          after_timeout-run L (break 0) (into_first (make q.ms) (pieces_of L R)),
          after_timeout-run L (make q.ms) (pieces_of L R),
        )
    at Brk = rw zero-add
    at contacts.Close =
        let P : List Attempt = into_first (run_of contacts.Close q.ms) (pieces_of L R) in
        rw (lt-leb L.release 0 h, after_timeout-run L (break 0) P)

-- in a make of x ms in no train, which the stage knows as s
judge_timeout-begins :
    (L : Limits) (R : List Run) (x s : ℕ) → IsLawful L → s ≡ min x GREATEST_LIMIT
    → BeginsWith L (judge_timeout L s) R (after_seizure L (pieces_of L (join (make x) R)))
judge_timeout-begins L R x s l e = by (nat_le L.timeout s) refl
  where
    by :
        (b : Bool) → nat_le L.timeout s ≡ b
        → BeginsWith L (judge_timeout L s) R (after_seizure L (pieces_of L (join (make x) R)))
    by true t =
        let h : L.timeout ≤ s = leb-true L.timeout s t in
        let k : L.timeout ≤ x + ms_taken_in Make R = omega (arith, l.each.timeout.1) in
        let timed = after_seizure-timed L (x + ms_taken_in Make R) (pieces_of L (runs_left Make R)) k in
        rw (t, join_is Make x R, timed, after_timeout-make L R l.each.release.0)
    by false t =
        let h : s < L.timeout = leb-false L.timeout s t in
        let same : s ≡ x = omega (arith, l.each.timeout.1) in
        rw (t, same)

-- a make of x ms inside a train sends the digit, if it reaches `pause` with the runs after it
digit_sent :
    (L : Limits) (R : List Run) (tally : Tally) (x : ℕ) → tally.breaks ≤ MANY_BREAKS
    → L.pause ≤ x + ms_taken_in Make R
    → in_train L tally (pieces_of L (join (make x) R))
    ≡ Digit tally.breaks tally.bad ∷ after_seizure L (pieces_of L (join (make x) R))
digit_sent L R tally x n k =
    let P : List Attempt = pieces_of L (runs_left Make R) in
    rw (join_is Make x R, in_train-pause L tally (x + ms_taken_in Make R) P n k)

-- in a make of x ms inside a train, which the stage knows as s
judge_pause-begins :
    (L : Limits) (R : List Run) (tally : Tally) (x s : ℕ) → IsLawful L → tally.breaks ≤ MANY_BREAKS
    → s ≡ min x GREATEST_LIMIT
    → BeginsWith L (judge_pause L s tally) R (in_train L tally (pieces_of L (join (make x) R)))
judge_pause-begins L R tally x s l n e = by (nat_le L.pause s) refl
  where
    by :
        (b : Bool) → nat_le L.pause s ≡ b
        → BeginsWith L (judge_pause L s tally) R (in_train L tally (pieces_of L (join (make x) R)))
    by true t =
        let h : L.pause ≤ s = leb-true L.pause s t in
        let k : L.pause ≤ x + ms_taken_in Make R = omega arith in
        rw (t, digit_sent L R tally x n k, judge_timeout-begins L R x s l e)
    by false t =
        let h : s < L.pause = leb-false L.pause s t in
        let same : s ≡ x = omega (arith, l.each.pause.1) in
        rw (t, same)

-- in a break of x ms, which the stage knows as s: a release ends the piece, and nothing else is sent
release_at-begins :
    (L : Limits) (R : List Run) (x s : ℕ) (phase : Phase) (pieces_send : List Attempt → List Signal)
    → IsLawful L → s ≡ min x GREATEST_LIMIT
    → ((P : List Attempt) → pieces_send (record { runs = []; released = true } ∷ P) ≡ Release ∷ all_of L P)
    → (s ≡ x → pieces_send (pieces_of L (join (break x) R)) ≡ to_send L phase R)
    → BeginsWith L (release_at L s phase) R (pieces_send (pieces_of L (join (break x) R)))
release_at-begins L R x s phase pieces_send l e ends stays = by (nat_le L.release s) refl
  where
    by :
        (b : Bool) → nat_le L.release s ≡ b
        → BeginsWith L (release_at L s phase) R (pieces_send (pieces_of L (join (break x) R)))
    by true t =
        let h : L.release ≤ s = leb-true L.release s t in
        let k : L.release ≤ x + ms_taken_in Brk R = omega arith in
        let released = pieces_of-release L (x + ms_taken_in Brk R) (runs_left Brk R) k in
        rw (t, join_is Brk x R, released, without_first_break_is R) (ends (pieces_of L (runs_left Brk R)))
    by false t =
        let h : s < L.release = leb-false L.release s t in
        let same : s ≡ x = omega (arith, l.each.release.1) in
        rw t (stays same)

-- in a break of x ms inside a train, which the stage knows as s
in_break-begins :
    (L : Limits) (R : List Run) (tally : Tally) (x s : ℕ) → IsLawful L → s ≡ min x GREATEST_LIMIT
    → BeginsWith L (judge_release L (InBreak s tally)) R (in_train L tally (pieces_of L (join (break x) R)))
in_break-begins L R tally x s l e =
    release_at-begins L R x s (InBreak s tally) (in_train L tally) l e (λ P. refl) (λ same. rw same refl)

-- in a break of x ms after a time-out
timed_out-begins :
    (L : Limits) (R : List Run) (x s : ℕ) → IsLawful L → s ≡ min x GREATEST_LIMIT
    → BeginsWith L (judge_release L (TimedOut s)) R (after_timeout L (pieces_of L (join (break x) R)))
timed_out-begins L R x s l e =
    release_at-begins L R x s (TimedOut s) (after_timeout L) l e (λ P. refl) (λ same. rw same refl)

-- runs that a row of the other contact ends

-- a make that begins an attempt is a seizure
all_of-make :
    (L : Limits) (m : ℕ) (R : List Run)
    → all_of L (pieces_of L (without_first_break (join (make m) R)))
    ≡ Seize ∷ after_seizure L (pieces_of L (join (make m) R))
all_of-make L m R =
    let seizes = all_of-after_seizure L (make (m + ms_taken_in Make R)) (pieces_of L (runs_left Make R)) in
    rw (join_is Make m R, seizes)

-- a make ends a train's break, which is counted in the tally
break_ended :
    (L : Limits) (tally : Tally) (t m : ℕ) (R : List Run) → t < L.release
    → in_train L tally (pieces_of L (join (break t) (join (make m) R)))
    ≡ in_train L (with_break L t tally) (pieces_of L (join (make m) R))
break_ended L tally t m R h =
    let P : List Attempt = into_first (make (m + ms_taken_in Make R)) (pieces_of L (runs_left Make R)) in
    rw (join_is Make m R, lt-leb L.release t h, in_train-break L tally t P)

-- a break ends a train's make, which is counted in the tally
make_ended :
    (L : Limits) (tally : Tally) (t m : ℕ) (R : List Run) → t < L.pause → t < L.timeout
    → in_train L tally (pieces_of L (join (make t) (join (break m) R)))
    ≡ in_train L (with_make L t tally) (pieces_of L (join (break m) R))
make_ended L tally t m R h k =
    let P : List Attempt = pieces_of L (break (m + ms_taken_in Brk R) ∷ runs_left Brk R) in
    rw (join_is Brk m R) (in_train-make L tally t P h k)

-- a break ends a make that is in no train, and begins a train
first_make_ended :
    (L : Limits) (t m : ℕ) (R : List Run) → t < L.timeout
    → after_seizure L (pieces_of L (join (make t) (join (break m) R)))
    ≡ in_train L no_breaks (pieces_of L (join (break m) R))
first_make_ended L t m R h =
    let P : List Attempt = pieces_of L (break (m + ms_taken_in Brk R) ∷ runs_left Brk R) in
    rw (join_is Brk m R) (after_seizure-make L t P h)

-- a make ends a break after a time-out, which then counts for nothing
timed_break_ended :
    (L : Limits) (t m : ℕ) (R : List Run) → t < L.release → 0 < L.release
    → after_timeout L (pieces_of L (join (break t) (join (make m) R)))
    ≡ after_timeout L (pieces_of L (join (break 0) R))
timed_break_ended L t m R h z =
    let longer_make : Run = make (m + ms_taken_in Make R) in
    let P : List Attempt = pieces_of L (runs_left Make R) in
    let no_break = after_timeout-run L (break t) (into_first longer_make P) in
    let no_make = after_timeout-run L longer_make P in
    rw (join_is Make m R, lt-leb L.release t h, no_break, no_make) (sym (after_timeout-make L R z))

-- a make row sends the beginning
pub take_make-begins :
    (L : Limits) (s : Phase) (m : ℕ) (R : List Run) → IsLawful L → IsOpen L s
    → BeginsWith L (take_make L s m) R (to_send L s (join (make m) R))
take_make-begins L OnHook m R l o =
    rw (all_of-make L m R)
    (ap (λ sent. Seize ∷ sent) (judge_timeout-begins L R m (longer 0 m) l (omega arith)))
take_make-begins L (BetweenTrains t) m R l o =
    rw (join_sum Make t m R) (judge_timeout-begins L R (t + m) (longer t m) l refl)
take_make-begins L (InBreak t tally) m R l o =
    rw (break_ended L tally t m R o.0)
    (judge_pause-begins L R (with_break L t tally) m (longer 0 m) l (omega arith) (omega arith))
take_make-begins L (InMake t tally) m R l o =
    rw (join_sum Make t m R) (judge_pause-begins L R tally (t + m) (longer t m) l o.1 refl)
take_make-begins L (TimedOut t) m R l o = timed_break_ended L t m R o l.each.release.0
take_make-begins L Closed m R l o = absurd o

-- a break row sends the beginning
pub take_break-begins :
    (L : Limits) (s : Phase) (m : ℕ) (R : List Run) → IsLawful L → IsOpen L s
    → BeginsWith L (take_break L s m) R (to_send L s (join (break m) R))
take_break-begins L OnHook m R l o = rw (join_is Brk m R, without_first_break_is R)
take_break-begins L (BetweenTrains t) m R l o =
    rw (first_make_ended L t m R o) (in_break-begins L R no_breaks m (longer 0 m) l (omega arith))
take_break-begins L (InBreak t tally) m R l o =
    rw (join_sum Brk t m R) (in_break-begins L R tally (t + m) (longer t m) l refl)
take_break-begins L (InMake t tally) m R l o =
    rw (make_ended L tally t m R o.0 (omega (arith, l.pause_under)))
    (in_break-begins L R (with_make L t tally) m (longer 0 m) l (omega arith))
take_break-begins L (TimedOut t) m R l o =
    rw (join_sum Brk t m R) (timed_out-begins L R (t + m) (longer t m) l refl)
take_break-begins L Closed m R l o = absurd o

-- the phase after a row is of an open record again

-- a make in no train leaves an open phase
judge_timeout-open : (L : Limits) (s : ℕ) → IsLawful L → IsOpen L (judge_timeout L s).phase
judge_timeout-open L s l =
    cond_both (nat_le L.timeout s) (with_first TimeOut (enter (TimedOut 0))) (enter (BetweenTrains s))
    (λ step. IsOpen L step.phase) (λ t. l.each.release.0) (λ f. leb-false L.timeout s f)

-- so does a make inside a train
judge_pause-open :
    (L : Limits) (s : ℕ) (tally : Tally) → IsLawful L → tally.breaks ≤ MANY_BREAKS
    → IsOpen L (judge_pause L s tally).phase
judge_pause-open L s tally l n =
    cond_both (nat_le L.pause s) (with_first (Digit tally.breaks tally.bad) (judge_timeout L s))
    (enter (InMake s tally)) (λ step. IsOpen L step.phase) (λ t. judge_timeout-open L s l)
    (λ f. (leb-false L.pause s f, n))

-- so does a break, where the phase that it would leave is open below the release
release_at-open :
    (L : Limits) (t : ℕ) (s : Phase) → (t < L.release → IsOpen L s) → IsOpen L (release_at L t s).phase
release_at-open L t s o =
    cond_both (nat_le L.release t) (with_first Release (enter OnHook)) (enter s) (λ step. IsOpen L step.phase)
    (λ e. tt) (λ e. o (leb-false L.release t e))

-- a make row leaves an open phase
pub take_make-open :
    (L : Limits) (s : Phase) (m : ℕ) → IsLawful L → IsOpen L s → IsOpen L (take_make L s m).phase
take_make-open L OnHook m l o = judge_timeout-open L (longer 0 m) l
take_make-open L (BetweenTrains t) m l o = judge_timeout-open L (longer t m) l
take_make-open L (InBreak t tally) m l o =
    judge_pause-open L (longer 0 m) (with_break L t tally) l (omega arith)
take_make-open L (InMake t tally) m l o = judge_pause-open L (longer t m) tally l o.1
take_make-open L (TimedOut t) m l o = l.each.release.0
take_make-open L Closed m l o = absurd o

-- a break row leaves an open phase
pub take_break-open : (L : Limits) (s : Phase) (m : ℕ) → IsOpen L s → IsOpen L (take_break L s m).phase
take_break-open L OnHook m o = tt
take_break-open L (BetweenTrains t) m o =
    release_at-open L (longer 0 m) (InBreak (longer 0 m) no_breaks) (λ below. (below, omega arith))
take_break-open L (InBreak t tally) m o =
    release_at-open L (longer t m) (InBreak (longer t m) tally) (λ below. (below, o.1))
take_break-open L (InMake t tally) m o =
    release_at-open L (longer 0 m) (InBreak (longer 0 m) (with_make L t tally)) (λ below. (below, o.1))
take_break-open L (TimedOut t) m o = release_at-open L (longer t m) (TimedOut (longer t m)) (λ below. below)
take_break-open L Closed m o = absurd o

-- where no run is to come, only the close is to be sent
pub to_send-none : (L : Limits) (s : Phase) → IsLawful L → IsOpen L s → to_send L s [] ≡ Close ∷ []
to_send-none L OnHook l o = refl
to_send-none L (BetweenTrains t) l o = rw (lt-leb L.timeout t o)
to_send-none L (InBreak t tally) l o = rw (lt-leb L.release t o.0)
to_send-none L (InMake t tally) l o =
    let h : t < L.timeout = omega (arith, l.pause_under) in
    rw (lt-leb L.pause t o.0, lt-leb L.timeout t h)
to_send-none L (TimedOut t) l o = rw (lt-leb L.release t o)
to_send-none L Closed l o = absurd o
