-- How long traces are.
use Rattle.std.proofs.Common.{◌≡◌, ◌∙◌, ℕ, ◌+◌, ◌*◌, List, [], ◌∷◌, ◌++◌, map, refl, ap, sym, zero-add, arith}
use Rattle.std.specs.List.{sum_by}
use Rattle.std.proofs.lemmas.List.Sums.{sum_by-append}
use Rattle.xb_model.specs.Rows.{LoopRow}
use Rattle.xb_contact.specs.declared.hold.Hold.{Hold}
use Rattle.xb_contact.specs.Bounces.{recorded, recorded_run}
use Rattle.xb_contact.specs.Holds.{total_of}
use Rattle.xb_contact.proofs.Records.{total_of-runs}
use Rattle.xb_chance.specs.Words.{state_after}
use Rattle.xb_dial.specs.Drawn.{disturbed_by, disturbed_from}
use Rattle.xb_dial.specs.Runs.{hold_of_row, in_us, on_hook, runs_in, us_in}
use Rattle.xb_dial.specs.Traces.{clean_of}
use Rattle.xb_dial.proofs.Texts.{run-total}

total-append : (first rest : List Hold) → total_of (first ++ rest) ≡ total_of first + total_of rest
total-append [] rest = sym (zero-add (total_of rest))
total-append (hold ∷ first) rest = ap (λ n. hold.ticks + n) (total-append first rest) ∙ omega arith

total-in-us : (runs : List Hold) → total_of (map in_us runs) ≡ total_of runs * 1000
total-in-us [] = refl
total-in-us (run ∷ runs) = ap (λ n. run.ticks * 1000 + n) (total-in-us runs) ∙ omega arith

total-rows :
    (rows : List LoopRow)
    → total_of (map hold_of_row rows ++ on_hook ∷ []) * 1000
    ≡ sum_by (λ (row : LoopRow). row.ms * 1000) rows + 1000000
total-rows [] = refl
total-rows (row ∷ rows) =
    let rest = total-rows rows in
    let sum = sum_by-append (λ (row : LoopRow). row.ms * 1000) (row ∷ []) rows in
    omega (arith, rest, sum)

-- the clean recording is as long as the rows say
pub end-is : (rows : List LoopRow) → total_of (clean_of rows) ≡ us_in rows
end-is rows =
    let all = total_of-runs (on_hook ∷ (map hold_of_row rows ++ on_hook ∷ [])) in
    let parts = total-rows rows in
    total-in-us (runs_in rows)
    ∙ ap (λ n. n * 1000) all
    ∙ omega (arith, parts)

-- and no bounce takes any time
pub recorded-total :
    (first us state : ℕ) (runs : List Hold) → total_of (recorded (disturbed_from first us state runs)) ≡ total_of runs
recorded-total first us state [] = refl
recorded-total first us state (run ∷ runs) =
    total-append (recorded_run (disturbed_by first state run)) (recorded (disturbed_from us us (state_after state 9) runs))
    ∙ ap (λ n. n + total_of (recorded (disturbed_from us us (state_after state 9) runs))) (run-total first state run)
    ∙ ap (λ n. run.ticks + n) (recorded-total us us (state_after state 9) runs)
