-- What is measured of a train, run by run, is what is said of its whole periods.
use Rattle.std.proofs.Common.{◌≡◌, ℕ, suc, ◌+◌, ◌-◌, ◌*◌, ◌<◌, ◌≤◌, ◌^◌, ◌==◌, min, max, List, [], ◌∷◌, ◌++◌, Bool, false, Option, Some, None, map, length, nat_le, refl, ap, ap₂, sym, ◌∙◌, append_assoc, arith, cond}
use Rattle.std.specs.List.{fold, sum_by}
use Rattle.std.proofs.lemmas.Bool.{le-leb, lt-leb, ne_eqb}
use Rattle.std.proofs.lemmas.List.Sums.{sum_by-cons}
use Rattle.xb_model.specs.declared.limits.Limits.{Limits}
use Rattle.xb_contact.specs.declared.level.Level.{Level}
use Rattle.xb_contact.specs.declared.scale.Scale.{Scale}
use Rattle.xb_contact.specs.Holds.{total_of}
use Rattle.xb_heard.specs.Figures.{quotient_of}
use Rattle.xb_turns.specs.declared.dial.Place.{Place}
use Rattle.xb_turns.specs.declared.dial.Place.TheVariants.{OnHook, Waiting, Pulsing, Over}
use Rattle.xb_turns.specs.declared.dial.Said.{Said}
use Rattle.xb_turns.specs.declared.dial.Said.TheVariants.{Digit}
use Rattle.xb_turns.specs.declared.figures.TheConstants.{MANY_PULSES}
use Rattle.xb_turns.specs.declared.train.Spread.{Spread}
use Rattle.xb_turns.specs.declared.train.Timed.{Timed}
use Rattle.xb_turns.specs.declared.train.Train.{Train}
use Rattle.xb_turns.specs.Dials.{hung_up, place_after, pulse_more, said_of}
use Rattle.xb_turns.specs.DialLaws.{Piece, holds_in, run_of_piece, runs_from}
use Rattle.xb_turns.specs.Digits.{Run, joined_runs, run_by, said_list, timed_run, told_of_runs}
use Rattle.xb_turns.specs.TrainLaws.{GoesByPeriods, IsDialled, IsDigit, IsMeasured, IsPause, IsPulse, IsRest, MeasuresTrains, Period, TellsTrain, break_ticks, last_or, make_ticks, period_ticks, place_of_runs, runs_of_train, tick_after}
use Rattle.xb_turns.specs.Trains.{or_wider, spread_of, train_begun, with_break, with_make}
use Rattle.xb_turns.proofs.DialRuns.{tells_the_runs}
use Rattle.xb_turns.proofs.ReportedRuns.{lasts, ticks-joined, ticks-onto, ticks_of}

-- the figures of what is measured
figures-are :
    (scale : Scale) (from : ℕ) (whole : List Period) (last : Run) (train : Train) → IsMeasured from whole last train
    → GoesByPeriods scale whole train
figures-are scale from whole last train is =
    let pulses : train.pulses ≡ length whole + 1 = is.pulses in
    let first : train.first ≡ from = is.first in
    let last_break : train.last ≡ from + sum_by period_ticks whole = is.last_break in
    let periods : train.pulses - 1 ≡ length whole = omega (arith, pulses) in
    let time : train.last - train.first ≡ sum_by period_ticks whole = omega (arith, first, last_break) in record {
      speed =
          ap (λ (n : ℕ). cond (nat_le MANY_PULSES n) None
          (quotient_of (1000 * ((train.pulses - 1) * scale.ticks)) ((train.last - train.first) * scale.ms))) pulses
          ∙ ap₂ (λ (n t : ℕ). cond (nat_le MANY_PULSES (length whole + 1)) None
          (quotient_of (1000 * (n * scale.ticks)) (t * scale.ms))) periods time;
      share = ap₂ (λ (broken t : ℕ). quotient_of (100 * broken) t) is.broken time;
    }

-- the least and the greatest, one by one
abbrev spread_with : Option Spread → List ℕ → Option Spread
spread_with spread [] = spread
spread_with spread (ticks ∷ rest) = spread_with (Some (or_wider spread ticks)) rest

spread-is :
    (least most : ℕ) (ticks : List ℕ)
    → spread_with (Some (spread_of least most)) ticks ≡ Some (spread_of (fold min least ticks) (fold max most ticks))
spread-is least most [] = refl
spread-is least most (ticks ∷ rest) = spread-is (min least ticks) (max most ticks) rest

-- what more periods and the last break make of pulses that a make follows
record Goes (before : Train) (from : ℕ) (whole : List Period) (last : Run) (train : Train) : Type 0 where
  pulses : train.pulses ≡ before.pulses + length whole + 1
  first : train.first ≡ before.first
  until : train.last ≡ from + sum_by period_ticks whole
  broken : train.broken ≡ before.broken + before.latest + sum_by break_ticks whole
  breaks : Some train.breaks ≡ spread_with (Some before.breaks) (map break_ticks whole ++ last.hold.ticks ∷ [])
  makes : train.makes ≡ spread_with before.makes (before.resting ∷ map make_ticks whole)
  first_period : train.first_period ≡ cond (before.pulses == 1) (from - before.last) before.first_period
  last_period : train.last_period ≡ last_or (from - before.last) (map period_ticks whole)
  bounce : train.bounce ≡ fold max before.bounce (map (λ (run : Run). run.bounce) (runs_of_train whole last))

record TellsMore (before : Train) (from : ℕ) (whole : List Period) (last pause : Run) (told : List Said) : Type 0 where
  train : Train
  later : List Said
  digit : told ≡ Digit train (max train.bounce pause.edge) ∷ later
  goes : Goes before from whole last train

module _ (limits : Limits) (scale : Scale) where
  abbrev told : Place → ℕ → List Run → List Said
  told place from runs = told_of_runs limits scale place from runs

  -- a run with which nothing is told
  in-silence :
      (place next : Place) (from : ℕ) (run : Run) (rest : List Run)
      → said_of limits place run.hold.level (timed_run scale from run) run.edge ≡ None
      → place_after limits place run.hold.level (timed_run scale from run) ≡ next
      → told place from (run ∷ rest) ≡ told next (from + run.hold.ticks) rest
  in-silence place next from run rest silent after =
      ap₂ (λ (said : Option Said) (p : Place). said_list said ++ told p (from + run.hold.ticks) rest) silent after

  -- a break of a pulse
  breaks-once :
      (place : Place) (from : ℕ) (run : Run) (rest : List Run) → IsPulse limits scale from run
      → told place from (run ∷ rest)
      ≡ told (pulse_more limits place (timed_run scale from run)) (from + run.hold.ticks) rest
  breaks-once place from run rest is =
      let timed : Timed = timed_run scale from run in
      let next : Place = pulse_more limits place timed in
      let short : nat_le limits.release timed.ms ≡ false = lt-leb limits.release timed.ms is.no_release in
      in-silence place next from run rest
      (ap (λ (level : Level). said_of limits place level timed run.edge) is.level
      ∙ ap (λ (b : Bool). cond b (hung_up place run.edge) None) short)
      (ap (λ (level : Level). place_after limits place level timed) is.level
      ∙ ap₂ (λ (none b : Bool). cond none place (cond b OnHook next)) (lasts run.hold.ticks is.lasts) short)

  -- a make within a train
  makes-once :
      (train : Train) (from : ℕ) (run : Run) (rest : List Run) → IsRest limits scale from run
      → told (Pulsing train) from (run ∷ rest)
      ≡ told (Pulsing (with_make limits train (timed_run scale from run))) (from + run.hold.ticks) rest
  makes-once train from run rest is =
      let timed : Timed = timed_run scale from run in
      let next : Place = Pulsing (with_make limits train timed) in
      let heard : nat_le limits.timeout timed.ms ≡ false = lt-leb limits.timeout timed.ms is.no_timeout in
      let short : nat_le limits.pause timed.ms ≡ false = lt-leb limits.pause timed.ms is.no_pause in
      in-silence (Pulsing train) next from run rest
      (ap (λ (level : Level). said_of limits (Pulsing train) level timed run.edge) is.level
      ∙ ap (λ (b : Bool). cond b (Some (Digit train (max train.bounce run.edge))) None) short)
      (ap (λ (level : Level). place_after limits (Pulsing train) level timed) is.level
      ∙ ap₂ (λ (over b : Bool). cond (run.hold.ticks == 0) (Pulsing train) (cond over Over (cond b Waiting next))) heard short
      ∙ ap (λ (none : Bool). cond none (Pulsing train) next) (lasts run.hold.ticks is.lasts))

  -- a pause
  abbrev after_pause : Train → ℕ → Run → List Run → List Said
  after_pause train from run rest =
      told (place_after limits (Pulsing train) run.hold.level (timed_run scale from run)) (from + run.hold.ticks) rest

  ends :
      (train : Train) (from : ℕ) (run : Run) (rest : List Run) → IsPause limits scale from run
      → told (Pulsing train) from (run ∷ rest)
      ≡ Digit train (max train.bounce run.edge) ∷ after_pause train from run rest
  ends train from run rest is =
      let timed : Timed = timed_run scale from run in
      let later : List Said = after_pause train from run rest in
      ap (λ (level : Level). said_list (said_of limits (Pulsing train) level timed run.edge) ++ later) is.level
      ∙ ap (λ (b : Bool). said_list (cond b (Some (Digit train (max train.bounce run.edge))) None) ++ later)
      (le-leb limits.pause timed.ms is.long)

  -- whole periods, one by one
  goes-on :
      (whole : List Period) (before : Train) (from : ℕ) (last pause : Run) (runs : List Run)
      → IsDigit limits scale from whole last pause → 1 ≤ before.pulses
      → before.pulses + sum_by period_ticks whole + 1 < 2 ^ 64
      → before.broken + before.latest + sum_by period_ticks whole < 2 ^ 64
      → TellsMore before from whole last pause (told (Pulsing before) from (runs_of_train whole last ++ pause ∷ runs))
  goes-on [] before from last pause runs is some room time =
      let train : Train = with_break limits before (timed_run scale from last) in record {
        train = train;
        later = after_pause train (from + last.hold.ticks) pause runs;
        digit =
            breaks-once (Pulsing before) from last (pause ∷ runs) is.0
            ∙ ends train (from + last.hold.ticks) pause runs is.1;
        goes = record {
          pulses = omega (arith, room);
          first = refl;
          until = omega arith;
          broken = omega (arith, time);
          breaks = refl;
          makes = refl;
          first_period = refl;
          last_period = refl;
          bounce = refl;
        };
      }
  goes-on (period ∷ rest) before from last pause runs is some room time =
      let b : ℕ = period.break.hold.ticks in
      let m : ℕ = period.make.hold.ticks in
      let broken : Train = with_break limits before (timed_run scale from period.break) in
      let rested : Train = with_make limits broken (timed_run scale (from + b) period.make) in
      let after : List Run = runs_of_train rest last ++ pause ∷ runs in
      let periods : sum_by period_ticks (period ∷ rest) ≡ b + m + sum_by period_ticks rest =
      sum_by-cons period_ticks period rest in
      let breaks : sum_by break_ticks (period ∷ rest) ≡ b + sum_by break_ticks rest = sum_by-cons break_ticks period rest in
      let pulses : rested.pulses ≡ before.pulses + 1 = omega (arith, room, periods) in
      let open_time : rested.broken + rested.latest ≡ before.broken + before.latest + b = omega (arith, time, periods) in
      let more = goes-on rest rested (from + b + m) last pause runs is.2 (omega (arith, pulses))
      (omega (arith, room, periods, pulses, is.0.lasts)) (omega (arith, time, periods, open_time)) in
      let all : rested.pulses + length rest + 1 ≡ before.pulses + suc (length rest) + 1 = omega (arith, pulses) in
      let until : from + b + m + sum_by period_ticks rest ≡ from + sum_by period_ticks (period ∷ rest) =
      omega (arith, periods) in
      let all_broken : rested.broken + rested.latest + sum_by break_ticks rest
      ≡ before.broken + before.latest + sum_by break_ticks (period ∷ rest) = omega (arith, open_time, breaks) in
      let not_first : (rested.pulses == 1) ≡ false =
      ne_eqb rested.pulses 1 (λ e. absurd (omega (arith, pulses, some, e))) in
      let time_of : from + b + m - from ≡ b + m = omega arith in record {
        train = more.train;
        later = more.later;
        digit =
            breaks-once (Pulsing before) from period.break (period.make ∷ after) is.0
            ∙ makes-once broken (from + b) period.make after is.1
            ∙ more.digit;
        goes = record {
          pulses = more.goes.pulses ∙ all;
          first = more.goes.first;
          until = more.goes.until ∙ until;
          broken = more.goes.broken ∙ all_broken;
          breaks = more.goes.breaks;
          makes = more.goes.makes;
          first_period =
              more.goes.first_period
              ∙ ap (λ (one : Bool). cond one (from + b + m - from) broken.first_period) not_first;
          last_period = more.goes.last_period ∙ ap (λ (n : ℕ). last_or n (map period_ticks rest)) time_of;
          bounce = more.goes.bounce;
        };
      }

  -- from the first break on
  begins :
      (whole : List Period) (from : ℕ) (last pause : Run) (runs : List Run) → IsDigit limits scale from whole last pause
      → from + sum_by period_ticks whole + last.hold.ticks < 2 ^ 64
      → TellsTrain scale from whole last pause (told Waiting from (runs_of_train whole last ++ pause ∷ runs))
  begins [] from last pause runs is room =
      let train : Train = train_begun limits (timed_run scale from last) in
      let measured : IsMeasured from [] last train = record {
        pulses = omega arith;
        first = refl;
        last_break = omega arith;
        broken = refl;
        breaks = refl;
        makes = refl;
        first_period = refl;
        last_period = refl;
        bounce = refl;
      } in record {
        train = train;
        earlier = [];
        later = after_pause train (from + last.hold.ticks) pause runs;
        digit =
            breaks-once Waiting from last (pause ∷ runs) is.0 ∙ ends train (from + last.hold.ticks) pause runs is.1;
        measured = measured;
        figures = figures-are scale from [] last train measured;
      }
  begins (period ∷ rest) from last pause runs is room =
      let b : ℕ = period.break.hold.ticks in
      let m : ℕ = period.make.hold.ticks in
      let broken : Train = train_begun limits (timed_run scale from period.break) in
      let rested : Train = with_make limits broken (timed_run scale (from + b) period.make) in
      let after : List Run = runs_of_train rest last ++ pause ∷ runs in
      let periods : sum_by period_ticks (period ∷ rest) ≡ b + m + sum_by period_ticks rest =
      sum_by-cons period_ticks period rest in
      let breaks : sum_by break_ticks (period ∷ rest) ≡ b + sum_by break_ticks rest = sum_by-cons break_ticks period rest in
      let more = goes-on rest rested (from + b + m) last pause runs is.2 (omega arith)
      (omega (arith, room, periods, is.0.lasts, is.1.lasts)) (omega (arith, room, periods)) in
      let all : 1 + length rest + 1 ≡ suc (length rest) + 1 = omega arith in
      let until : from + b + m + sum_by period_ticks rest ≡ from + sum_by period_ticks (period ∷ rest) =
      omega (arith, periods) in
      let all_broken : 0 + b + sum_by break_ticks rest ≡ sum_by break_ticks (period ∷ rest) = omega (arith, breaks) in
      let time_of : from + b + m - from ≡ b + m = omega arith in
      let measured : IsMeasured from (period ∷ rest) last more.train = record {
        pulses = more.goes.pulses ∙ all;
        first = more.goes.first;
        last_break = more.goes.until ∙ until;
        broken = more.goes.broken ∙ all_broken;
        breaks = more.goes.breaks ∙ spread-is b b (map break_ticks rest ++ last.hold.ticks ∷ []);
        makes = more.goes.makes ∙ spread-is m m (map make_ticks rest);
        first_period = more.goes.first_period ∙ time_of;
        last_period = more.goes.last_period ∙ ap (λ (n : ℕ). last_or n (map period_ticks rest)) time_of;
        bounce = ap Some more.goes.bounce;
      } in record {
        train = more.train;
        earlier = [];
        later = more.later;
        digit =
            breaks-once Waiting from period.break (period.make ∷ after) is.0
            ∙ makes-once broken (from + b) period.make after is.1
            ∙ more.digit;
        measured = measured;
        figures = figures-are scale from (period ∷ rest) last more.train measured;
      }

  -- what is told of runs, and of those before them
  told-append :
      (before : List Run) (place : Place) (from : ℕ) (rest : List Run)
      → told place from (before ++ rest)
      ≡ told place from before ++ told (place_of_runs limits scale place from before) (tick_after from before) rest
  told-append [] place from rest = refl
  told-append (run ∷ before) place from rest =
      let said : List Said = said_list (said_of limits place run.hold.level (timed_run scale from run) run.edge) in
      let next : Place = place_after limits place run.hold.level (timed_run scale from run) in
      let until : ℕ = from + run.hold.ticks in
      ap (λ (more : List Said). said ++ more) (told-append before next until rest)
      ∙ sym (append_assoc said (told next until before)
      (told (place_of_runs limits scale next until before) (tick_after until before) rest))

-- the ticks of runs can be counted
after-is : (runs : List Run) (from : ℕ) → tick_after from runs ≡ from + ticks_of runs
after-is [] from = omega arith
after-is (run ∷ rest) from =
    let sum : from + run.hold.ticks + ticks_of rest ≡ from + (run.hold.ticks + ticks_of rest) = omega arith in
    after-is rest (from + run.hold.ticks) ∙ sum

ticks-append : (runs more : List Run) → ticks_of (runs ++ more) ≡ ticks_of runs + ticks_of more
ticks-append [] more = omega arith
ticks-append (run ∷ rest) more =
    let later : ticks_of (rest ++ more) ≡ ticks_of rest + ticks_of more = ticks-append rest more in
    let sum : run.hold.ticks + ticks_of (rest ++ more) ≡ run.hold.ticks + ticks_of rest + ticks_of more =
    omega (arith, later) in
    sum

ticks-train :
    (whole : List Period) (last : Run) (more : List Run)
    → ticks_of (runs_of_train whole last ++ more) ≡ sum_by period_ticks whole + last.hold.ticks + ticks_of more
ticks-train [] last more = omega arith
ticks-train (period ∷ rest) last more =
    let b : ℕ = period.break.hold.ticks in
    let m : ℕ = period.make.hold.ticks in
    let later : ticks_of (runs_of_train rest last ++ more)
    ≡ sum_by period_ticks rest + last.hold.ticks + ticks_of more = ticks-train rest last more in
    let periods : sum_by period_ticks (period ∷ rest) ≡ b + m + sum_by period_ticks rest =
    sum_by-cons period_ticks period rest in
    let sum : b + (m + ticks_of (runs_of_train rest last ++ more))
    ≡ sum_by period_ticks (period ∷ rest) + last.hold.ticks + ticks_of more = omega (arith, later, periods) in
    sum

pub has-room :
    (limits : Limits) (scale : Scale) (first : Level) (pieces : List Piece)
    (from : ℕ) (whole : List Period) (last pause : Run)
    → total_of (holds_in pieces) < 2 ^ 64 → IsDialled limits scale first pieces from whole last pause
    → from + sum_by period_ticks whole + last.hold.ticks < 2 ^ 64
has-room limits scale first pieces from whole last pause room is =
    let rest : List Run = runs_of_train whole last ++ pause ∷ is.after in
    let all : ticks_of (runs_from first pieces) ≡ 0 + total_of (holds_in pieces) =
    ticks-onto (run_by first 0 0 0) (joined_runs (map run_of_piece pieces))
    ∙ ap (λ (n : ℕ). 0 + n) (ticks-joined pieces) in
    let parts : ticks_of (runs_from first pieces) ≡ ticks_of is.before + ticks_of rest =
    ap ticks_of is.runs ∙ ticks-append is.before rest in
    let train : ticks_of rest ≡ sum_by period_ticks whole + last.hold.ticks + ticks_of (pause ∷ is.after) =
    ticks-train whole last (pause ∷ is.after) in
    let begins_at : from ≡ 0 + ticks_of is.before = sym is.begins ∙ after-is is.before 0 in
    omega (arith, room, all, parts, train, begins_at)

pub measures_trains : MeasuresTrains
measures_trains limits scale first pieces from whole last pause some room is =
    let rest : List Run = runs_of_train whole last ++ pause ∷ is.after in
    let said : List Said = told limits scale OnHook 0 is.before in
    let counted = has-room limits scale first pieces from whole last pause room is in
    let more = begins limits scale whole from last pause is.after is.digit counted in record {
      train = more.train;
      earlier = said ++ more.earlier;
      later = more.later;
      digit =
          tells_the_runs limits scale first pieces some room
          ∙ ap (λ (runs : List Run). told limits scale OnHook 0 runs) is.runs
          ∙ told-append limits scale is.before OnHook 0 rest
          ∙ ap (λ (place : Place). said ++ told limits scale place (tick_after 0 is.before) rest) is.waits
          ∙ ap (λ (n : ℕ). said ++ told limits scale Waiting n rest) is.begins
          ∙ ap (λ (told_then : List Said). said ++ told_then) more.digit
          ∙ sym (append_assoc said more.earlier (Digit more.train (max more.train.bounce pause.edge) ∷ more.later));
      measured = more.measured;
      figures = more.figures;
    }
