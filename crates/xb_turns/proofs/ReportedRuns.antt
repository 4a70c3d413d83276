-- The digits that are told of a whole record are those of its report.
use Rattle.std.proofs.Common.{◌≡◌, ℕ, ◌+◌, ◌<◌, ◌≤◌, ◌^◌, ◌==◌, List, [], ◌∷◌, ◌++◌, Bool, true, false, map, nat_le, refl, ap, ap₂, sym, ◌∙◌, arith, cond}
use Rattle.std.specs.List.{flat_map}
use Rattle.std.proofs.lemmas.Bool.{ne_eqb}
use Rattle.std.proofs.lemmas.Grind.{flat_map-append}
use Rattle.xb_model.specs.declared.limits.Limits.{Limits}
use Rattle.xb_model.specs.declared.plan.Plan.{Plan}
use Rattle.xb_model.specs.Records.{Run as RecordRun, is_break}
use Rattle.xb_contact.specs.declared.level.Level.{Level}
use Rattle.xb_contact.specs.declared.level.Level.TheVariants.{Closed, Open}
use Rattle.xb_contact.specs.declared.scale.Scale.{Scale}
use Rattle.xb_contact.specs.Holds.{AllLast, same_level, total_of}
use Rattle.xb_heard.specs.declared.run.PlacedRun.{PlacedRun}
use Rattle.xb_heard.specs.PlacedRuns.{placed, run_in}
use Rattle.xb_heard.specs.Attempts.{heard_attempts}
use Rattle.xb_turns.specs.declared.dial.Place.{Place}
use Rattle.xb_turns.specs.declared.dial.Place.TheVariants.{OnHook, Waiting, Pulsing, Over}
use Rattle.xb_turns.specs.declared.train.Timed.{Timed}
use Rattle.xb_turns.specs.declared.train.Train.{Train}
use Rattle.xb_turns.specs.Dials.{place_after, place_after_level, pulse_more, said_of, unless_over}
use Rattle.xb_turns.specs.Digits.{Run, joined_runs, merged, onto_runs, run_by, said_list, timed_run, told_of_runs}
use Rattle.xb_turns.specs.DialLaws.{Piece, holds_in, run_of_piece}
use Rattle.xb_turns.specs.ReportLaws.{TellsTheReport, contact_of, judged_digits, judged_said, run_in_ms, runs_in_ms}
use Rattle.xb_turns.specs.Trains.{with_make}
use Rattle.xb_turns.proofs.DialRuns.{same-closed, silent, tells_the_runs}
use Rattle.xb_turns.proofs.ReportParts.{Judged, all_digits}
use Rattle.xb_turns.proofs.Reported.{digits_at, fits, judged_now, pulses_at, run_at, steps}

-- neighbours differ, and each run lasts
abbrev differs : Level → List Run → Bool
differs level [] = true
differs level (run ∷ rest) = cond (same_level level run.hold.level) false true

abbrev Go : List Run → Type 0
Go [] = Unit {0}
Go (run ∷ rest) = (1 ≤ run.hold.ticks) × (differs run.hold.level rest ≡ true) × Go rest

abbrev pub ticks_of : List Run → ℕ
ticks_of [] = 0
ticks_of (run ∷ rest) = run.hold.ticks + ticks_of rest

-- the first of them can come at a place
abbrev fits_first : Place → List Run → Bool
fits_first place [] = true
fits_first place (run ∷ rest) = fits place run.hold.level

-- runs of the report are these
abbrev Are : Scale → ℕ → List Run → List PlacedRun → Type 0
Are scale from [] [] = Unit {0}
Are scale from [] (r ∷ R) = false ≡ true
Are scale from (run ∷ rest) [] = false ≡ true
Are scale from (run ∷ rest) (r ∷ R) =
    (r.contact ≡ contact_of run.hold.level) × (r.ms ≡ (timed_run scale from run).ms)
    × Are scale (from + run.hold.ticks) rest R

-- where a line is after a run: what can come then, and how many pulses it may have
fits-make : (limits : Limits) (place : Place) (run : Timed) → fits (place_after_level limits place Closed run) Open ≡ true
fits-make limits place run = by (nat_le limits.timeout run.ms) place
  where
    ended : (b : Bool) (train : Train) → fits (cond b Waiting (Pulsing train)) Open ≡ true
    ended true train = refl
    ended false train = refl

    by : (b : Bool) (place : Place) → fits (cond b Over (unless_over limits place run)) Open ≡ true
    by true place = refl
    by false OnHook = refl
    by false Waiting = refl
    by false (Pulsing train) = ended (nat_le limits.pause run.ms) (with_make limits train run)
    by false Over = refl

fits-break : (limits : Limits) (place : Place) (run : Timed) → fits (place_after_level limits place Open run) Closed ≡ true
fits-break limits place run = by (nat_le limits.release run.ms) place
  where
    by : (b : Bool) (place : Place) → fits (cond b OnHook (pulse_more limits place run)) Closed ≡ true
    by true place = refl
    by false OnHook = refl
    by false Waiting = refl
    by false (Pulsing train) = refl
    by false Over = refl

fits-after :
    (limits : Limits) (place : Place) (level next : Level) (run : Timed) → cond (same_level level next) false true ≡ true
    → fits (place_after_level limits place level run) next ≡ true
fits-after limits place Closed Closed run e = cc
fits-after limits place Closed Open run e = fits-make limits place run
fits-after limits place Open Closed run e = fits-break limits place run
fits-after limits place Open Open run e = cc

fits-next :
    (limits : Limits) (place : Place) (level : Level) (run : Timed) (rest : List Run) → differs level rest ≡ true
    → fits_first (place_after_level limits place level run) rest ≡ true
fits-next limits place level run [] e = refl
fits-next limits place level run (next ∷ rest) e = fits-after limits place level next.hold.level run e

fewer-make : (limits : Limits) (place : Place) (run : Timed) → pulses_at (place_after_level limits place Closed run) ≤ pulses_at place + 1
fewer-make limits place run = by (nat_le limits.timeout run.ms) place
  where
    ended : (b : Bool) (train : Train) → pulses_at (cond b Waiting (Pulsing (with_make limits train run))) ≤ train.pulses + 1
    ended true train = omega arith
    ended false train = omega arith

    by : (b : Bool) (place : Place) → pulses_at (cond b Over (unless_over limits place run)) ≤ pulses_at place + 1
    by true place = omega arith
    by false OnHook = omega arith
    by false Waiting = omega arith
    by false (Pulsing train) = ended (nat_le limits.pause run.ms) train
    by false Over = omega arith

fewer-break : (limits : Limits) (place : Place) (run : Timed) → pulses_at (place_after_level limits place Open run) ≤ pulses_at place + 1
fewer-break limits place run = by (nat_le limits.release run.ms) place
  where
    by : (b : Bool) (place : Place) → pulses_at (cond b OnHook (pulse_more limits place run)) ≤ pulses_at place + 1
    by true place = omega arith
    by false OnHook = omega arith
    by false Waiting = omega arith
    by false (Pulsing train) = omega arith
    by false Over = omega arith

fewer :
    (limits : Limits) (place : Place) (level : Level) (run : Timed)
    → pulses_at (place_after_level limits place level run) ≤ pulses_at place + 1
fewer limits place Closed run = fewer-make limits place run
fewer limits place Open run = fewer-break limits place run

pub lasts : (ticks : ℕ) → 1 ≤ ticks → (ticks == 0) ≡ false
lasts ticks some = ne_eqb ticks 0 (λ e. absurd (omega (arith, some, e)))

nothing-left : (plan : Plan) (limits : Limits) (place : Place) → [] ≡ digits_at plan limits place []
nothing-left plan limits OnHook = refl
nothing-left plan limits Waiting = refl
nothing-left plan limits (Pulsing train) = refl
nothing-left plan limits Over = refl

module _ (plan : Plan) (limits : Limits) (scale : Scale) where
  abbrev told : Place → ℕ → List Run → List Judged
  told place from runs = flat_map judged_said (told_of_runs limits scale place from runs)

  -- from a place on
  told-is :
      (runs : List Run) (R : List PlacedRun) (place : Place) (from : ℕ) → Go runs → fits_first place runs ≡ true
      → pulses_at place + ticks_of runs < 2 ^ 64 → Are scale from runs R
      → told place from runs ≡ digits_at plan limits place R
  told-is [] [] place from go fit room are = nothing-left plan limits place
  told-is [] (r ∷ R) place from go fit room are = cc
  told-is (run ∷ rest) [] place from go fit room are = cc
  told-is (run ∷ rest) (r ∷ R) place from go fit room are =
      let level = run.hold.level in
      let timed = timed_run scale from run in
      let next = place_after_level limits place level timed in
      let until : ℕ = from + run.hold.ticks in
      let same : r ≡ run_at level timed r.start r.first_record =
      ap₂ (λ contact ms. placed contact ms r.start r.first_record) are.0 are.1 in
      let there : place_after limits place level timed ≡ next =
      ap (λ b. cond b place next) (lasts run.hold.ticks go.0) in
      let few = fewer limits place level timed in
      let later : told next until rest ≡ digits_at plan limits next R =
      told-is rest R next until go.2 (fits-next limits place level timed rest go.1) (omega (arith, room, few, go.0)) are.2 in
      let step = steps plan limits timed run.edge R r.start r.first_record place level fit (omega (arith, room, go.0)) in
      flat_map-append judged_said (said_list (said_of limits place level timed run.edge))
      (told_of_runs limits scale (place_after limits place level timed) until rest)
      ∙ ap (λ digits. judged_now limits place level timed run.edge ++ digits)
      (ap (λ p. told p until rest) there ∙ later)
      ∙ sym step
      ∙ ap (λ q. digits_at plan limits place (q ∷ R)) (sym same)

  -- on hook a break is idle time
  abbrev reported : List PlacedRun → List Judged
  reported R = judged_digits (heard_attempts plan limits R)

  stays-on : (run : Timed) → place_after limits OnHook Open run ≡ OnHook
  stays-on run = by (run.ticks == 0) (nat_le limits.release run.ms)
    where
      by : (a b : Bool) → cond a OnHook (cond b OnHook OnHook) ≡ OnHook
      by true b = refl
      by false true = refl
      by false false = refl

  fits-hook : (rest : List Run) → differs Open rest ≡ true → fits_first OnHook rest ≡ true
  fits-hook [] e = refl
  fits-hook (next ∷ rest) e = by next.hold.level e
    where
      by : (level : Level) → cond (same_level Open level) false true ≡ true → fits OnHook level ≡ true
      by Closed e = refl
      by Open e = cc

  begins-closed :
      (run : Run) (rest : List Run) (r : PlacedRun) (R : List PlacedRun) (from : ℕ) → Go (run ∷ rest)
      → ticks_of (run ∷ rest) < 2 ^ 64 → Are scale from (run ∷ rest) (r ∷ R) → run.hold.level ≡ Closed
      → told OnHook from (run ∷ rest) ≡ reported (r ∷ R)
  begins-closed run rest r R from go room are closed =
      let make : is_break (run_in r) ≡ false =
      ap (λ contact. is_break (run_in (placed contact r.ms r.start r.first_record))) (are.0 ∙ ap contact_of closed) in
      told-is (run ∷ rest) (r ∷ R) OnHook from go (ap (fits OnHook) closed) (omega (arith, room)) are
      ∙ ap (λ b. all_digits plan limits (cond b R (r ∷ R))) (sym make)

  begins-open :
      (run : Run) (rest : List Run) (r : PlacedRun) (R : List PlacedRun) (from : ℕ) → Go (run ∷ rest)
      → ticks_of (run ∷ rest) < 2 ^ 64 → Are scale from (run ∷ rest) (r ∷ R) → run.hold.level ≡ Open
      → told OnHook from (run ∷ rest) ≡ reported (r ∷ R)
  begins-open run rest r R from go room are open-level =
      let timed = timed_run scale from run in
      let until : ℕ = from + run.hold.ticks in
      let break : is_break (run_in r) ≡ true =
      ap (λ contact. is_break (run_in (placed contact r.ms r.start r.first_record))) (are.0 ∙ ap contact_of open-level) in
      let on : place_after limits OnHook run.hold.level timed ≡ OnHook =
      ap (λ level. place_after limits OnHook level timed) open-level ∙ stays-on timed in
      let other : differs Open rest ≡ true = ap (λ level. differs level rest) (sym open-level) ∙ go.1 in
      flat_map-append judged_said (said_list (said_of limits OnHook run.hold.level timed run.edge))
      (told_of_runs limits scale (place_after limits OnHook run.hold.level timed) until rest)
      ∙ ap (λ said. flat_map judged_said (said_list said) ++ told (place_after limits OnHook run.hold.level timed) until rest)
      (silent limits run.hold.level timed run.edge)
      ∙ ap (λ p. told p until rest) on
      ∙ told-is rest R OnHook until go.2 (fits-hook rest other) (omega (arith, room)) are.2
      ∙ ap (λ b. all_digits plan limits (cond b R (r ∷ R))) (sym break)

  begins :
      (runs : List Run) (R : List PlacedRun) (from : ℕ) → Go runs → ticks_of runs < 2 ^ 64 → Are scale from runs R
      → told OnHook from runs ≡ reported R
  begins [] [] from go room are = refl
  begins [] (r ∷ R) from go room are = cc
  begins (run ∷ rest) [] from go room are = cc
  begins (run ∷ rest) (r ∷ R) from go room are = by run.hold.level refl
    where
      by : (level : Level) → run.hold.level ≡ level → told OnHook from (run ∷ rest) ≡ reported (r ∷ R)
      by Closed is = begins-closed run rest r R from go room are is
      by Open is = begins-open run rest r R from go room are is

-- runs of the report that are these runs in ms
abbrev head_or : RecordRun → List RecordRun → RecordRun
head_or none [] = none
head_or none (run ∷ rest) = run

abbrev tail_of : List RecordRun → List RecordRun
tail_of [] = []
tail_of (run ∷ rest) = rest

are-these :
    (scale : Scale) (runs : List Run) (R : List PlacedRun) (from : ℕ) → Go runs → map run_in R ≡ runs_in_ms scale from runs
    → Are scale from runs R
are-these scale [] [] from go e = tt
are-these scale [] (r ∷ R) from go e = cc
are-these scale (run ∷ rest) R from go e =
    by R (λ later. are-these scale rest later (from + run.hold.ticks) go.2)
    (e ∙ ap (λ b. cond b (runs_in_ms scale from rest) (run_in_ms scale from run ∷ runs_in_ms scale (from + run.hold.ticks) rest))
    (lasts run.hold.ticks go.0))
  where
    by :
        (R : List PlacedRun)
        → ((later : List PlacedRun) → map run_in later ≡ runs_in_ms scale (from + run.hold.ticks) rest
        → Are scale (from + run.hold.ticks) rest later)
        → map run_in R ≡ run_in_ms scale from run ∷ runs_in_ms scale (from + run.hold.ticks) rest
        → Are scale from (run ∷ rest) R
    by [] these is = cc
    by (r ∷ R) these is =
        let first : run_in r ≡ run_in_ms scale from run = ap (head_or (run_in r)) is in (
          ap (λ (q : RecordRun). q.contact) first,
          ap (λ (q : RecordRun). q.ms) first,
          these R (ap tail_of is),
        )

-- joined runs go so
differs-same : (a b : Level) (rest : List Run) → same_level a b ≡ true → differs b rest ≡ true → differs a rest ≡ true
differs-same a b [] same e = refl
differs-same a b (next ∷ rest) same e = ap (λ t. cond t false true) (same-closed a b next.hold.level same) ∙ e

go-merged :
    (run next : Run) (rest : List Run) → same_level run.hold.level next.hold.level ≡ true → Go (next ∷ rest)
    → Go (merged run next ∷ rest)
go-merged run next rest same go = (omega (arith, go.0), differs-same run.hold.level next.hold.level rest same go.1, go.2)

go-onto : (run : Run) (runs : List Run) → 1 ≤ run.hold.ticks → Go runs → Go (onto_runs run runs)
go-onto run [] some go = (some, refl, tt)
go-onto run (next ∷ rest) some go = by (same_level run.hold.level next.hold.level) refl
  where
    by :
        (b : Bool) → same_level run.hold.level next.hold.level ≡ b
        → Go (cond b (merged run next ∷ rest) (run ∷ next ∷ rest))
    by true e = go-merged run next rest e go
    by false e = (some, ap (λ t. cond t false true) e, go)

go-joined : (pieces : List Piece) → AllLast 1 (holds_in pieces) → Go (joined_runs (map run_of_piece pieces))
go-joined [] last = tt
go-joined (piece ∷ rest) last =
    go-onto (run_of_piece piece) (joined_runs (map run_of_piece rest)) last.0 (go-joined rest last.1)

pub ticks-onto : (run : Run) (runs : List Run) → ticks_of (onto_runs run runs) ≡ run.hold.ticks + ticks_of runs
ticks-onto run [] = refl
ticks-onto run (next ∷ rest) = by (same_level run.hold.level next.hold.level)
  where
    by :
        (b : Bool)
        → ticks_of (cond b (merged run next ∷ rest) (run ∷ next ∷ rest)) ≡ run.hold.ticks + (next.hold.ticks + ticks_of rest)
    by true = omega arith
    by false = refl

pub ticks-joined : (pieces : List Piece) → ticks_of (joined_runs (map run_of_piece pieces)) ≡ total_of (holds_in pieces)
ticks-joined [] = refl
ticks-joined (piece ∷ rest) =
    ticks-onto (run_of_piece piece) (joined_runs (map run_of_piece rest)) ∙ ap (λ n. piece.hold.ticks + n) (ticks-joined rest)

-- the record begins with a level that does not last by itself
begins-at :
    (plan : Plan) (limits : Limits) (scale : Scale) (first : Level) (runs : List Run) (R : List PlacedRun) → Go runs
    → ticks_of runs < 2 ^ 64 → map run_in R ≡ runs_in_ms scale 0 (onto_runs (run_by first 0 0 0) runs)
    → flat_map judged_said (told_of_runs limits scale OnHook 0 (onto_runs (run_by first 0 0 0) runs))
    ≡ judged_digits (heard_attempts plan limits R)
begins-at plan limits scale first [] [] go room e =
    ap (λ said. flat_map judged_said (said_list said ++ [])) (silent limits first (timed_run scale 0 (run_by first 0 0 0)) 0)
begins-at plan limits scale first [] (r ∷ R) go room e = cc
begins-at plan limits scale first (next ∷ rest) R go room e = by (same_level first next.hold.level) refl e
  where
    by :
        (b : Bool) → same_level first next.hold.level ≡ b
        → map run_in R ≡ runs_in_ms scale 0 (cond b (merged (run_by first 0 0 0) next ∷ rest) (run_by first 0 0 0 ∷ next ∷ rest))
        → flat_map judged_said
        (told_of_runs limits scale OnHook 0 (cond b (merged (run_by first 0 0 0) next ∷ rest) (run_by first 0 0 0 ∷ next ∷ rest)))
        ≡ judged_digits (heard_attempts plan limits R)
    by true same is =
        let goes = go-merged (run_by first 0 0 0) next rest same go in
        begins plan limits scale (merged (run_by first 0 0 0) next ∷ rest) R 0 goes (omega (arith, room))
        (are-these scale (merged (run_by first 0 0 0) next ∷ rest) R 0 goes is)
    by false same is =
        ap (λ said. flat_map judged_said (said_list said ++ told_of_runs limits scale OnHook 0 (next ∷ rest)))
        (silent limits first (timed_run scale 0 (run_by first 0 0 0)) 0)
        ∙ begins plan limits scale (next ∷ rest) R 0 go room (are-these scale (next ∷ rest) R 0 go is)

pub tells_the_report : TellsTheReport
tells_the_report plan limits scale first pieces R some room lasting e =
    ap (flat_map judged_said) (tells_the_runs limits scale first pieces some room)
    ∙ begins-at plan limits scale first (joined_runs (map run_of_piece pieces)) R (go-joined pieces lasting)
    (omega (arith, room, ticks-joined pieces)) e
