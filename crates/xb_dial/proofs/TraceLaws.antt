-- What traces come to.
use Rattle.std.proofs.Common.{◌≡◌, ◌∙◌, ℕ, ◌+◌, ◌-◌, ◌*◌, ◌/◌, ◌<◌, ◌≤◌, List, [], ◌∷◌, ◌++◌, map, refl, ap, sym, subst, arith, bytes_eq, zero-add}
use Rattle.std.specs.List.{IsDistinct}
use Rattle.xb_model.specs.Rows.{LoopRow}
use Rattle.xb_contact.specs.declared.level.Level.{Level}
use Rattle.xb_contact.specs.declared.hold.Hold.{Hold}
use Rattle.xb_contact.specs.Bounces.{AllBounceWithin, clean, recorded}
use Rattle.xb_contact.specs.Changes.{AreInOrder, AreNames}
use Rattle.xb_contact.specs.Holds.{AllLast, IsAlternating, differs_from_first, hold_of, lasting, runs_of, total_of}
use Rattle.xb_contact.specs.Settled.{settled}
use Rattle.xb_contact.specs.Times.{ms_at, rounded, scale_by}
use Rattle.xb_contact.proofs.Exact.{is_exact_under_bounces}
use Rattle.xb_contact.proofs.Records.{IsAlternating-joined}
use Rattle.xb_contact.proofs.SeizedRuns.{runs_of-runs}
use Rattle.xb_contact.proofs.Told.{tells_the_record}
use Rattle.xb_chance.specs.Words.{state_after}
use Rattle.xb_vcd.proofs.WrittenVcd.{written_is_read}
use Rattle.xb_dial.specs.declared.bouncing.Bouncing.{Bouncing}
use Rattle.xb_dial.specs.Drawn.{disturbed_from}
use Rattle.xb_dial.specs.Runs.{hold_of_row, in_us, on_hook, runs_in, us_in}
use Rattle.xb_dial.specs.TraceLaws.{AreLong, TracesAreRead, TracesAreTheRows, TracesKeepRuns, TracesSettle}
use Rattle.xb_dial.specs.Traces.{changes_from, clean_of, trace_changes, trace_end, trace_of, wires}
use Rattle.xb_dial.proofs.Bounded.{bounces-end, bounces-short}
use Rattle.xb_dial.proofs.TraceTotals.{end-is, recorded-total}

-- changes of holds are in order up to their end
in-order :
    (tick now : ℕ) (holds : List Hold) → tick ≤ now
    → AreInOrder 1 tick (changes_from now holds) (now + total_of holds)
in-order tick now [] after = omega (arith, after)
in-order tick now (hold ∷ rest) after =
    let sum : now + hold.ticks + total_of rest ≡ now + (hold.ticks + total_of rest) = omega arith in (
      omega arith,
      after,
      subst (λ end. AreInOrder 1 now (changes_from (now + hold.ticks) rest) end) sum
          (in-order now (now + hold.ticks) rest (omega arith)),
    )

distinct : IsDistinct bytes_eq wires
unfolding IsDistinct
distinct = (tt, tt)

are-names : AreNames wires
are-names = record { words = ((omega arith, refl), tt); distinct = distinct }

pub traces_are_read : TracesAreRead
traces_are_read bouncing rows fits =
    let holds : List Hold = recorded (trace_of bouncing rows) in
    let end : 0 + total_of holds ≡ trace_end rows =
    zero-add (total_of holds) ∙ recorded-total 0 bouncing.us bouncing.seed (clean_of rows) in
    let within : trace_end rows ≡ us_in rows = end-is rows in
    written_is_read wires (trace_changes bouncing rows) (trace_end rows) are-names (omega arith)
    (subst (λ n. AreInOrder 1 0 (changes_from 0 holds) n) end (in-order 0 0 holds (omega arith)))
    (omega (arith, within, fits))

-- the clean runs of disturbed runs
clean-runs : (first us state : ℕ) (runs : List Hold) → clean (disturbed_from first us state runs) ≡ runs
clean-runs first us state [] = refl
clean-runs first us state (run ∷ runs) = ap (λ rest. run ∷ rest) (clean-runs us us (state_after state 9) runs)

-- runs in us alternate as those in ms
differs-in-us :
    (level : Level) (runs : List Hold) → differs_from_first level (map in_us runs) ≡ differs_from_first level runs
differs-in-us level [] = refl
differs-in-us level (run ∷ runs) = refl

alternating-in-us : (runs : List Hold) → IsAlternating runs → IsAlternating (map in_us runs)
alternating-in-us [] all = tt
alternating-in-us (run ∷ runs) all = (differs-in-us run.level runs ∙ all.0, alternating-in-us runs all.1)

alternating : (rows : List LoopRow) → IsAlternating (clean_of rows)
alternating rows =
    alternating-in-us (runs_in rows) (IsAlternating-joined (lasting (on_hook ∷ (map hold_of_row rows ++ on_hook ∷ []))))

pub traces_keep_runs : TracesKeepRuns
traces_keep_runs bouncing rows = (
  clean-runs 0 bouncing.us bouncing.seed (clean_of rows),
  alternating rows,
  recorded-total 0 bouncing.us bouncing.seed (clean_of rows) ∙ end-is rows,
  end-is rows,
)

-- bounces of long runs end in time
within-from :
    (least most first us state : ℕ) (runs : List Hold) → first / 8 < least → us / 8 < least → first ≤ most → us ≤ most
    → AllLast (least + most) runs → AllBounceWithin least most (disturbed_from first us state runs)
within-from least most first us state [] short shorter fit fits long = tt
within-from least most first us state (run ∷ runs) short shorter fit fits long =
    let end = bounces-end first state run.ticks in (
      record {
        short = bounces-short least first state run.ticks short;
        first = omega (arith, end.0, fit);
        long = long.0;
      },
      within-from least most us us (state_after state 9) runs shorter shorter fits fits long.1,
    )

within :
    (least : ℕ) (bouncing : Bouncing) (rows : List LoopRow) → AreLong least bouncing rows
    → AllBounceWithin least bouncing.us (trace_of bouncing rows)
within least bouncing rows long =
    let none : 0 / 8 < least = omega (arith, long.0) in
    within-from least bouncing.us 0 bouncing.us bouncing.seed (clean_of rows) none long.0 (omega arith) (omega arith) long.1

settles :
    (least : ℕ) (first : Level) (bouncing : Bouncing) (rows : List LoopRow) → AreLong least bouncing rows
    → settled least first (recorded (trace_of bouncing rows)) ≡ clean_of rows
settles least first bouncing rows long =
    let same = clean-runs 0 bouncing.us bouncing.seed (clean_of rows) in
    is_exact_under_bounces least bouncing.us first (trace_of bouncing rows) (omega (arith, long.0))
    (subst (λ (runs : List Hold). IsAlternating runs) (sym same) (alternating rows)) (within least bouncing rows long)
    ∙ same

pub traces_settle : TracesSettle
traces_settle least first bouncing rows long = (within least bouncing rows long, settles least first bouncing rows long)

rounded-in-us :
    (ms : ℕ) (runs : List Hold) → rounded (scale_by 1 1000) (ms * 1000) (map in_us runs) ≡ runs
rounded-in-us ms [] = refl
rounded-in-us ms (run ∷ runs) =
    let sum : ms * 1000 + run.ticks * 1000 ≡ (ms + run.ticks) * 1000 = omega arith in
    let time : ms_at (scale_by 1 1000) (ms * 1000 + run.ticks * 1000) - ms_at (scale_by 1 1000) (ms * 1000) ≡ run.ticks =
    omega arith in
    ap (λ n. hold_of run.level n ∷ rounded (scale_by 1 1000) (ms * 1000 + run.ticks * 1000) (map in_us runs)) time
    ∙ ap (λ n. run ∷ rounded (scale_by 1 1000) n (map in_us runs)) sum
    ∙ ap (λ rest. run ∷ rest) (rounded-in-us (ms + run.ticks) runs)

-- the clean runs in ms are those of the rows
pub clean_in_ms :
    (bouncing : Bouncing) (rows : List LoopRow)
    → rounded (scale_by 1 1000) 0 (clean (trace_of bouncing rows)) ≡ runs_in rows
clean_in_ms bouncing rows =
    ap (rounded (scale_by 1 1000) 0) (clean-runs 0 bouncing.us bouncing.seed (clean_of rows))
    ∙ rounded-in-us 0 (runs_in rows)

pub traces_are_the_rows : TracesAreTheRows
traces_are_the_rows least most first bouncing rows long =
    let scale = scale_by 1 1000 in
    let holds : List Hold = recorded (trace_of bouncing rows) in
    let same : rounded scale 0 (settled least first holds) ≡ runs_in rows =
    ap (rounded scale 0) (settles least first bouncing rows long) ∙ rounded-in-us 0 (runs_in rows) in (
      same,
      tells_the_record least scale most first holds (omega (arith, long.0)) (omega arith)
          ∙ ap runs_of same ∙ runs_of-runs (on_hook ∷ (map hold_of_row rows ++ on_hook ∷ [])),
    )
