-- The times of runs are sums over them.
use Rattle.std.proofs.Common.{◌≡◌, ℕ, ◌+◌, ◌*◌, List, [], ◌∷◌, Bool, true, false, None, length, suc, nat_le, ap₂, ◌∙◌, arith, cond, zero-add}
use Rattle.std.proofs.lemmas.List.Sums.{sum_by-cons}
use Rattle.xb_model.specs.Records.{is_break}
use Rattle.xb_heard.specs.declared.figures.TheConstants.{MANY_RUNS}
use Rattle.xb_heard.specs.declared.figures.Times.{Times}
use Rattle.xb_heard.specs.declared.run.PlacedRun.{PlacedRun}
use Rattle.xb_heard.specs.Figures.{quotient_of, times, times_from, times_of, whole_periods}
use Rattle.xb_heard.specs.PeriodLaws.{GoByWholePeriods, breaks_in, ms_in}
use Rattle.xb_heard.specs.PlacedRuns.{run_in}

-- the times after runs, and the breaks among these
record AreSums (before : Times) (breaks runs : List PlacedRun) (after : Times) : Type 0 where
  count : after.breaks ≡ before.breaks + length breaks
  broken : after.open_ms ≡ before.open_ms + ms_in breaks
  all : after.all_ms ≡ before.all_ms + ms_in runs

ms-more : (run : PlacedRun) (rest : List PlacedRun) → ms_in (run ∷ rest) ≡ run.ms + ms_in rest
ms-more run rest = sum_by-cons (λ (r : PlacedRun). r.ms) run rest

are-sums : (runs : List PlacedRun) (before : Times) → AreSums before (breaks_in runs) runs (times_from before runs)
are-sums [] before = record { count = omega arith; broken = omega arith; all = omega arith }
are-sums (run ∷ rest) before = by (is_break (run_in run)) (are-sums rest)
  where
    more : Times
    more = times (before.breaks + 1) (before.open_ms + run.ms) (before.all_ms + run.ms)

    as-many : Times
    as-many = times before.breaks before.open_ms (before.all_ms + run.ms)

    by :
        (b : Bool) → ((now : Times) → AreSums now (breaks_in rest) rest (times_from now rest))
        → AreSums before (cond b (run ∷ breaks_in rest) (breaks_in rest)) (run ∷ rest) (times_from (cond b more as-many) rest)
    by true later =
        let sums = later more in
        let count : before.breaks + 1 + length (breaks_in rest) ≡ before.breaks + suc (length (breaks_in rest)) = omega arith in
        let broken : before.open_ms + run.ms + ms_in (breaks_in rest) ≡ before.open_ms + ms_in (run ∷ breaks_in rest) =
        omega (arith, ms-more run (breaks_in rest)) in
        let all : before.all_ms + run.ms + ms_in rest ≡ before.all_ms + ms_in (run ∷ rest) =
        omega (arith, ms-more run rest) in
        record { count = sums.count ∙ count; broken = sums.broken ∙ broken; all = sums.all ∙ all }
    by false later =
        let sums = later as-many in
        let all : before.all_ms + run.ms + ms_in rest ≡ before.all_ms + ms_in (run ∷ rest) =
        omega (arith, ms-more run rest) in
        record { count = sums.count; broken = sums.broken; all = sums.all ∙ all }

pub go_by_whole_periods : GoByWholePeriods
go_by_whole_periods train =
    let whole : List PlacedRun = whole_periods train in
    let sums = are-sums whole (times 0 0 0) in
    let count : (times_of whole).breaks ≡ length (breaks_in whole) = sums.count ∙ zero-add (length (breaks_in whole)) in
    let broken : (times_of whole).open_ms ≡ ms_in (breaks_in whole) = sums.broken ∙ zero-add (ms_in (breaks_in whole)) in
    let all : (times_of whole).all_ms ≡ ms_in whole = sums.all ∙ zero-add (ms_in whole) in record {
      speed = ap₂ (λ (n ms : ℕ). quotient_of (1000 * n) ms) count all;
      share = ap₂ (λ (ms all_ms : ℕ). cond (nat_le MANY_RUNS (length train)) None (quotient_of (100 * ms) all_ms)) broken all;
    }
