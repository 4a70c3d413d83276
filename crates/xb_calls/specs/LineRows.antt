-- How the rows of calls are put together, step by step.
use Rattle.std.specs.Prelude.{◌≡◌, ◌≤◌, List, [], ◌∷◌, ◌++◌, map, drop, take, Bool, true, false}
use Rattle.std.specs.List.{filter, flat_map}
use Rattle.std.specs.Borrow.{Bor}
use Rattle.xb_model.specs.declared.row.TheConstants.{GREATEST_MS}
use Rattle.xb_model.specs.Rows.{LoopRow}
use Rattle.xb_model.specs.Records.{Run, break}
use Rattle.xb_calls.specs.declared.speed.Speed.{Speed}
use Rattle.xb_calls.specs.Calls.{DialledCall}
use Rattle.xb_calls.specs.Dialling.{call_runs, on_line}

-- each time of the speed may stand in a row
pub record MayStand (speed : Speed) : Type 0 where
  pub breaks : speed.break_ms ≤ GREATEST_MS
  pub makes : speed.make_ms ≤ GREATEST_MS
  pub pauses : speed.pause_ms ≤ GREATEST_MS
  pub seizes : speed.seize_ms ≤ GREATEST_MS
  pub hangs_up : speed.hang_up_ms ≤ GREATEST_MS

-- after rows a break hangs up
abbrev pub hang_up_after : {A : Type 0} → List A → Speed → List Run
hang_up_after [] speed = []
hang_up_after (row ∷ rows) speed = break speed.hang_up_ms ∷ []

-- a call stands after the earlier rows of its line
abbrev pub AddsCall : Speed → DialledCall → List LoopRow → List LoopRow → Type 0
AddsCall speed call old new =
    new ≡ old ++ on_line call.line (hang_up_after old speed ++ call_runs speed call.digits)

-- the rows that references point to
abbrev pub lists_of : List (Bor (List LoopRow)) → List (List LoopRow)
lists_of lists = map (λ list. list.now) lists

abbrev pub has_items : {A : Type 0} → List A → Bool
has_items [] = false
has_items (x ∷ xs) = true

-- the lists that are not empty
abbrev pub without_empty : {A : Type 0} → List (List A) → List (List A)
without_empty lists = filter has_items lists

-- the first row of each list stands after the earlier rows, and the others are left
pub record Takes (lists : List (List LoopRow)) (old new : List LoopRow) (left : List (List LoopRow)) : Type 0
  where
    pub rows : new ≡ old ++ flat_map (take 1) lists
    pub left_is : left ≡ without_empty (map (drop 1) lists)
