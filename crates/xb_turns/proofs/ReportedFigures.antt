-- Where a tick is a ms, the figures that are told of a train are those of the report.
use Rattle.std.proofs.Common.{◌≡◌, ℕ, suc, ◌+◌, ◌-◌, ◌*◌, ◌/◌, ◌<◌, ◌≤◌, ◌^◌, min, max, List, [], ◌∷◌, ◌++◌, Bool, true, false, None, map, length, take, nat_le, refl, ap, ap₂, sym, ◌∙◌, arith, cond, div-one, length-append}
use Rattle.std.specs.List.{flat_map, sum_by}
use Rattle.std.proofs.lemmas.Bool.{lt-leb}
use Rattle.std.proofs.lemmas.List.{length-map, map-append, take-map, take_at}
use Rattle.std.proofs.lemmas.List.Sums.{sum_by-cons}
use Rattle.xb_model.specs.declared.limits.Limits.{Limits}
use Rattle.xb_model.specs.declared.row.Contact.TheVariants.{Brk}
use Rattle.xb_model.specs.Records.{Run as RecordRun, is_break, run_of, same_contact}
use Rattle.xb_contact.specs.declared.level.Level.{Level}
use Rattle.xb_contact.specs.declared.scale.Scale.{Scale}
use Rattle.xb_contact.specs.Times.{ms_at, scale_by}
use Rattle.xb_heard.specs.declared.figures.Times.{Times}
use Rattle.xb_heard.specs.declared.run.PlacedRun.{PlacedRun}
use Rattle.xb_heard.specs.Figures.{quotient_of, times, times_from, times_of, whole_periods, with_run}
use Rattle.xb_heard.specs.PlacedRuns.{run_in}
use Rattle.xb_turns.specs.declared.figures.TheConstants.{MANY_PULSES}
use Rattle.xb_turns.specs.Dials.{ms_between}
use Rattle.xb_turns.specs.Digits.{Run}
use Rattle.xb_turns.specs.ReportLaws.{contact_of, run_in_ms, runs_in_ms}
use Rattle.xb_turns.specs.TrainLaws.{FiguresAreReported, IsDigit, Period, break_ticks, period_ticks, runs_of_period, runs_of_train}
use Rattle.xb_turns.proofs.MeasuredTrains.{has-room, measures_trains}
use Rattle.xb_turns.proofs.ReportedRuns.{lasts}

abbrev one : Scale
one = scale_by 1 1

-- a run whose ticks are ms
abbrev in_ticks : Run → RecordRun
in_ticks run = run_of (contact_of run.hold.level) run.hold.ticks

ms-one : (tick : ℕ) → ms_at one tick ≡ tick
ms-one tick =
    let same : tick * 1 + 1 / 2 ≡ tick = omega arith in ap (λ (n : ℕ). n / 1) same ∙ div-one tick

ms-between : (from ticks : ℕ) → from + ticks < 2 ^ 64 → ms_between one from (from + ticks) ≡ ticks
ms-between from ticks room =
    let same : min (from + ticks - from) (2 ^ 64 - 1) ≡ ticks = omega (arith, room) in
    ap₂ (λ (u f : ℕ). min (u - f) (2 ^ 64 - 1)) (ms-one (from + ticks)) (ms-one from) ∙ same

-- runs in ms, one by one
one-run :
    (from : ℕ) (run : Run) (rest : List Run) → 1 ≤ run.hold.ticks → from + run.hold.ticks < 2 ^ 64
    → runs_in_ms one from (run ∷ rest) ≡ in_ticks run ∷ runs_in_ms one (from + run.hold.ticks) rest
one-run from run rest some room =
    let later : List RecordRun = runs_in_ms one (from + run.hold.ticks) rest in
    ap (λ (none : Bool). cond none (runs_in_ms one from rest) (run_in_ms one from run ∷ later)) (lasts run.hold.ticks some)
    ∙ ap (λ (ms : ℕ). run_of (contact_of run.hold.level) ms ∷ later) (ms-between from run.hold.ticks room)

-- what whole periods add to times
record Adds (before : Times) (whole : List Period) (after : Times) : Type 0 where
  count : after.breaks ≡ before.breaks + length whole
  broken : after.open_ms ≡ before.open_ms + sum_by break_ticks whole
  all : after.all_ms ≡ before.all_ms + sum_by period_ticks whole

module _ (limits : Limits) (last pause : Run) where
  in-ms :
      (whole : List Period) (from : ℕ) → IsDigit limits one from whole last pause
      → from + sum_by period_ticks whole + last.hold.ticks < 2 ^ 64
      → runs_in_ms one from (runs_of_train whole last) ≡ map in_ticks (runs_of_train whole last)
  in-ms [] from is room = one-run from last [] is.0.lasts (omega (arith, room))
  in-ms (period ∷ rest) from is room =
      let b : ℕ = period.break.hold.ticks in
      let m : ℕ = period.make.hold.ticks in
      let periods : sum_by period_ticks (period ∷ rest) ≡ b + m + sum_by period_ticks rest =
      sum_by-cons period_ticks period rest in
      one-run from period.break (period.make ∷ runs_of_train rest last) is.0.lasts (omega (arith, room, periods))
      ∙ ap (λ (runs : List RecordRun). in_ticks period.break ∷ runs)
      (one-run (from + b) period.make (runs_of_train rest last) is.1.lasts (omega (arith, room, periods))
      ∙ ap (λ (runs : List RecordRun). in_ticks period.make ∷ runs)
      (in-ms rest (from + b + m) is.2 (omega (arith, room, periods))))

  adds :
      (whole : List Period) (from : ℕ) (runs : List PlacedRun) (before : Times) → IsDigit limits one from whole last pause
      → map run_in runs ≡ map in_ticks (flat_map runs_of_period whole) → Adds before whole (times_from before runs)
  adds [] from [] before is same = record { count = omega arith; broken = omega arith; all = omega arith }
  adds [] from (run ∷ runs) before is same = absurd (cc same)
  adds (period ∷ rest) from [] before is same = absurd (cc same)
  adds (period ∷ rest) from (run ∷ []) before is same = absurd (cc same)
  adds (period ∷ rest) from (run ∷ next ∷ runs) before is same =
      let first : run_in run ≡ in_ticks period.break = cc same in
      let second : run_in next ≡ in_ticks period.make = cc same in
      let later : map run_in runs ≡ map in_ticks (flat_map runs_of_period rest) = cc same in
      let is-break : is_break (run_in run) ≡ true =
      ap is_break first ∙ ap (λ (level : Level). same_contact (contact_of level) Brk) is.0.level in
      let is-make : is_break (run_in next) ≡ false =
      ap is_break second ∙ ap (λ (level : Level). same_contact (contact_of level) Brk) is.1.level in
      let break_ms : run.ms ≡ break_ticks period = ap (λ (r : RecordRun). r.ms) first in
      let make_ms : next.ms ≡ period.make.hold.ticks = ap (λ (r : RecordRun). r.ms) second in
      let broken : Times = times (before.breaks + 1) (before.open_ms + run.ms) (before.all_ms + run.ms) in
      let after : Times = times (before.breaks + 1) (before.open_ms + run.ms) (before.all_ms + run.ms + next.ms) in
      let goes : times_from before (run ∷ next ∷ runs) ≡ times_from after runs =
      ap (λ (t : Bool). times_from (with_run next
      (cond t broken (times before.breaks before.open_ms (before.all_ms + run.ms)))) runs) is-break
      ∙ ap (λ (t : Bool). times_from (cond t
      (times (before.breaks + 1 + 1) (before.open_ms + run.ms + next.ms) (before.all_ms + run.ms + next.ms))
      after) runs) is-make in
      let more = adds rest (from + break_ticks period + period.make.hold.ticks) runs after is.2 later in
      let breaks : sum_by break_ticks (period ∷ rest) ≡ break_ticks period + sum_by break_ticks rest =
      sum_by-cons break_ticks period rest in
      let periods : sum_by period_ticks (period ∷ rest)
      ≡ break_ticks period + period.make.hold.ticks + sum_by period_ticks rest = sum_by-cons period_ticks period rest in
      let count : before.breaks + 1 + length rest ≡ before.breaks + suc (length rest) = omega arith in
      let opened : before.open_ms + run.ms + sum_by break_ticks rest
      ≡ before.open_ms + sum_by break_ticks (period ∷ rest) = omega (arith, break_ms, breaks) in
      let passed : before.all_ms + run.ms + next.ms + sum_by period_ticks rest
      ≡ before.all_ms + sum_by period_ticks (period ∷ rest) = omega (arith, break_ms, make_ms, periods) in record {
        count = ap (λ (t : Times). t.breaks) goes ∙ more.count ∙ count;
        broken = ap (λ (t : Times). t.open_ms) goes ∙ more.broken ∙ opened;
        all = ap (λ (t : Times). t.all_ms) goes ∙ more.all ∙ passed;
      }

-- each period has two runs
two-runs : (whole : List Period) → length (flat_map runs_of_period whole) ≡ length whole + length whole
two-runs [] = refl
two-runs (period ∷ rest) =
    let later : length (flat_map runs_of_period rest) ≡ length rest + length rest = two-runs rest in
    let all : suc (suc (length (flat_map runs_of_period rest))) ≡ suc (length rest) + suc (length rest) =
    omega (arith, later) in
    all

-- the runs before the last are those of the whole periods
record AreRuns (whole : List Period) (runs : List PlacedRun) : Type 0 where
  count : length runs ≡ length whole + length whole + 1
  before_last : map run_in (whole_periods runs) ≡ map in_ticks (flat_map runs_of_period whole)

are-runs :
    (whole : List Period) (last : Run) (runs : List PlacedRun) → map run_in runs ≡ map in_ticks (runs_of_train whole last)
    → AreRuns whole runs
are-runs whole last runs same =
    let front : List RecordRun = map in_ticks (flat_map runs_of_period whole) in
    let all : map run_in runs ≡ front ++ in_ticks last ∷ [] =
    same ∙ map-append in_ticks (flat_map runs_of_period whole) (last ∷ []) in
    let placed : length (map run_in runs) ≡ length runs = length-map runs run_in in
    let front_length : length front ≡ length (flat_map runs_of_period whole) =
    length-map (flat_map runs_of_period whole) in_ticks in
    let two : length (flat_map runs_of_period whole) ≡ length whole + length whole = two-runs whole in
    let sum : length (front ++ in_ticks last ∷ []) ≡ length front + 1 = length-append front (in_ticks last ∷ []) in
    let same_length : length (map run_in runs) ≡ length (front ++ in_ticks last ∷ []) = ap length all in
    let before : length front ≡ length runs - 1 = omega (arith, placed, sum, same_length) in record {
      count = omega (arith, placed, front_length, two, sum, same_length);
      before_last =
          sym (take-map run_in (length runs - 1) runs)
          ∙ ap (take (length runs - 1)) all
          ∙ take_at front (in_ticks last ∷ []) (length runs - 1) before;
    }

pub figures_are_reported : FiguresAreReported
figures_are_reported limits first pieces from whole last pause runs room is few same =
    let told = measures_trains limits one first pieces from whole last pause (omega arith) room is in
    let counted = has-room limits one first pieces from whole last pause room is in
    let are = are-runs whole last runs (same ∙ in-ms limits last pause whole from is.digit counted) in
    let sums = adds limits last pause whole from (whole_periods runs) (times 0 0 0) is.digit are.before_last in
    let t : Times = times_of (whole_periods runs) in
    let count : length whole * 1 ≡ t.breaks = omega (arith, sums.count) in
    let broken : sum_by break_ticks whole ≡ t.open_ms = omega (arith, sums.broken) in
    let all : sum_by period_ticks whole ≡ t.all_ms = omega (arith, sums.all) in
    let all_one : sum_by period_ticks whole * 1 ≡ t.all_ms = omega (arith, all) in
    let pulses : nat_le MANY_PULSES (length whole + 1) ≡ false = lt-leb MANY_PULSES (length whole + 1) few in
    let bound : length runs < 4294967296 = omega (arith, few, are.count) in
    let short : nat_le 4294967296 (length runs) ≡ false = lt-leb 4294967296 (length runs) bound in record {
      train = told.train;
      bounce = max told.train.bounce pause.edge;
      earlier = told.earlier;
      later = told.later;
      digit = told.digit;
      speed_told =
          told.figures.speed
          ∙ ap (λ (many : Bool). cond many None
          (quotient_of (1000 * (length whole * 1)) (sum_by period_ticks whole * 1))) pulses
          ∙ ap₂ (λ (n ms : ℕ). quotient_of (1000 * n) ms) count all_one;
      share_told =
          told.figures.share
          ∙ ap₂ (λ (n ms : ℕ). quotient_of (100 * n) ms) broken all
          ∙ sym (ap (λ (many : Bool). cond many None (quotient_of (100 * t.open_ms) t.all_ms)) short);
    }
