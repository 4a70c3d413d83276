-- What is heard on the lines of the office, one after the other.
use Rattle.std.proofs.Common.{◌≡◌, ◌∙◌, ℕ, ◌+◌, min, Bool, true, false, cond, List, [], ◌∷◌, map, refl, ap, sym, arith, add-zero, zero-add}
use Rattle.std.specs.Prelude.{◌||◌, count_by}
use Rattle.std.specs.List.{list_any, sum_by}
use Rattle.std.proofs.lemmas.List.Folds.{list_any-append}
use Rattle.std.proofs.lemmas.List.Sums.{sum_by_push}
use Rattle.xb_model.specs.declared.limits.Limits.{Limits}
use Rattle.xb_model.specs.declared.line.TheConstants.{LINES}
use Rattle.xb_model.specs.Lines.{lines_below}
use Rattle.xb_model.specs.Records.{Run, is_break, join, joined, record_of, run_of, same_contact}
use Rattle.xb_model.specs.Rows.{LoopRow}
use Rattle.xb_model.proofs.LinesBelow.{lines_below-more, lines_below-none}
use Rattle.xb_heard.specs.declared.figures.Times.{Times}
use Rattle.xb_heard.specs.declared.run.PlacedRun.{PlacedRun}
use Rattle.xb_heard.specs.Figures.{times, times_from, times_of, with_run}
use Rattle.xb_heard.specs.PlacedRuns.{run_in}
use Rattle.xb_doubts.specs.declared.heard.Heard.{Heard}
use Rattle.xb_doubts.specs.declared.counted.Counted.{Counted}
use Rattle.xb_doubts.specs.Attempts.{attempts_on, has_digit, has_number, has_whole_digit, is_ring}
use Rattle.xb_doubts.specs.Counted.{counted_below, counted_on, with_counted}
use Rattle.xb_doubts.specs.Heard.{IsHeard, can_dial, heard_below, heard_on, heard_with, lasts, nothing_heard, room_below}
use Rattle.xb_doubts.proofs.ToldAttempts.{same_counted}

one_any : (some one : Bool) → (some || (one || false)) ≡ (some || one)
one_any true one = refl
one_any false true = refl
one_any false false = refl

any_more : (test : ℕ → Bool) (n : ℕ) → list_any test (lines_below (n + 1)) ≡ (list_any test (lines_below n) || test n)
any_more test n =
    ap (list_any test) (lines_below-more n) ∙ list_any-append test (lines_below n) (n ∷ [])
    ∙ one_any (list_any test (lines_below n)) (test n)

sum_more : (count : ℕ → ℕ) (n : ℕ) → sum_by count (lines_below (n + 1)) ≡ sum_by count (lines_below n) + count n
sum_more count n = ap (sum_by count) (lines_below-more n) ∙ sum_by_push count (lines_below n) n

capped_more : (all some one : ℕ) → all ≡ some + one → min all 10 ≡ min (min some 10 + min one 10) 10
capped_more all some one e = omega arith

counted_step : (limits : Limits) (rows : List LoopRow) (n : ℕ)
    → counted_below limits rows (n + 1) ≡ with_counted (counted_below limits rows n) (counted_on limits rows n)
unfolding counted_below
counted_step limits rows n =
    let rings = λ (l : ℕ). count_by (is_ring limits) (attempts_on limits rows l) in
    same_counted _ _ _ _ _ _ _ _
    (any_more (λ l. list_any (has_digit limits) (attempts_on limits rows l)) n)
    (any_more (λ l. list_any (has_whole_digit limits) (attempts_on limits rows l)) n)
    (any_more (λ l. list_any (has_number limits) (attempts_on limits rows l)) n)
    (capped_more (sum_by rings (lines_below (n + 1))) (sum_by rings (lines_below n)) (rings n) (sum_more rings n))

room_step : (limits : Limits) (rows : List LoopRow) (n : ℕ)
    → room_below limits rows (n + 1) ≡ (room_below limits rows n || can_dial limits (lasts (record_of n rows)))
unfolding room_below
room_step limits rows n = any_more (λ l. can_dial limits (lasts (record_of l rows))) n

pub same_heard : (c d : Counted) (a b : Bool) → c ≡ d → a ≡ b
    → (let left : Heard = record { counted = c; has_room = a } in left) ≡ (record { counted = d; has_room = b })
same_heard c d a b p q = rw (p, q) refl

-- one line more
pub heard_step : (limits : Limits) (rows : List LoopRow) (n : ℕ)
    → heard_below limits rows (n + 1) ≡ heard_with (heard_below limits rows n) (heard_on limits (record_of n rows))
heard_step limits rows n = same_heard _ _ _ _ (counted_step limits rows n) (room_step limits rows n)

-- no line
pub heard_none : (limits : Limits) (rows : List LoopRow) → heard_below limits rows 0 ≡ nothing_heard
unfolding counted_below room_below
heard_none limits rows = rw lines_below-none refl

-- all lines
pub heard_all : (limits : Limits) (rows : List LoopRow) (heard : Heard) → heard ≡ heard_below limits rows LINES
    → IsHeard limits rows heard
unfolding counted_below room_below
heard_all limits rows heard e = rw e (record { dials = refl; dials_whole = refl; rings = refl; has_room = refl })

-- how long runs last that are joined
lasts_joined-by : (same : Bool) (run next : Run) (rest : List Run)
    → lasts (cond same (run_of run.contact (run.ms + next.ms) ∷ rest) (run ∷ next ∷ rest)) ≡ run.ms + lasts (next ∷ rest)
lasts_joined-by true run next rest = omega arith
lasts_joined-by false run next rest = refl

lasts_join : (run : Run) (runs : List Run) → lasts (join run runs) ≡ run.ms + lasts runs
lasts_join run [] = refl
lasts_join run (next ∷ rest) = lasts_joined-by (same_contact run.contact next.contact) run next rest

lasts_joined : (runs : List Run) → lasts (joined runs) ≡ lasts runs
lasts_joined [] = refl
lasts_joined (run ∷ runs) = lasts_join run (joined runs) ∙ ap (λ n. run.ms + n) (lasts_joined runs)

-- and those of a report
all_with : (is : Bool) (b o breaks opened all : ℕ) → (cond is (times b o all) (times breaks opened all)).all_ms ≡ all
all_with true b o breaks opened all = refl
all_with false b o breaks opened all = refl

all_from : (so_far : Times) (runs : List PlacedRun)
    → (times_from so_far runs).all_ms ≡ so_far.all_ms + lasts (map run_in runs)
all_from so_far [] = sym (add-zero so_far.all_ms)
all_from so_far (run ∷ runs) =
    let one : (with_run run so_far).all_ms ≡ so_far.all_ms + run.ms =
    all_with (is_break (run_in run)) (so_far.breaks + 1) (so_far.open_ms + run.ms) so_far.breaks so_far.open_ms
    (so_far.all_ms + run.ms) in
    let more = all_from (with_run run so_far) runs in
    omega (arith, one, more)

pub lasts_are : (runs : List PlacedRun) (record_ : List Run) → map run_in runs ≡ joined record_
    → (times_of runs).all_ms ≡ lasts record_
lasts_are runs record_ e =
    all_from (times 0 0 0) runs ∙ zero-add (lasts (map run_in runs)) ∙ ap lasts e ∙ lasts_joined record_
