-- What the marks so far of each line are, beside its tape.
use Rattle.std.specs.Prelude.{◌≡◌, ◌⊎◌, ℕ, List, [], ◌∷◌, ◌++◌, Bool, true, false, not, ◌||◌}
use Rattle.std.specs.List.{filter, flat_map}
use mathlib.Core.List.{IsPrefix}
use Rattle.xb_model.specs.declared.dialled.Dialled.{Dialled}
use Rattle.xb_model.specs.declared.dialled.Dialled.TheVariants as dialled
use Rattle.xb_model.specs.declared.mark.Mark.{Mark}
use Rattle.xb_model.specs.declared.mark.Mark.TheVariants as mark
use Rattle.xb_model.specs.declared.on.On.{On}
use Rattle.xb_model.specs.declared.reason.Reason.{Reason}
use Rattle.xb_model.specs.declared.reason.Reason.TheVariants.{Mutilated, Unknown, Abandoned, TimedOut}
use Rattle.xb_model.specs.Lines.{on_line_of, of_line}
use Rattle.xb_model.specs.Keyings.{marks_of}
use Rattle.xb_model.specs.Numbers.{outcome_of}
use Rattle.xb_model.specs.Records.{Attempt, attempts_of, closes, record_of, rows_of}
use Rattle.xb_model.specs.Routing.{order_of}
use Rattle.xb_model.specs.Rows.{LoopRow}
use Rattle.xb_model.specs.Tapes.{joined_tape}
use Rattle.xb_routes.specs.Table.{Table}
use Rattle.xb_tape.specs.GatheredMarks.{whats_of}
use Rattle.xb_serial.specs.Office.{marks_of_rows}

-- the marks of line l
abbrev pub marks_on : ℕ → List (On Mark) → List Mark
marks_on l marks = whats_of (of_line on_line_of l marks)

-- the tape of line l
abbrev pub tape_on : Table → ℕ → List LoopRow → List Mark
tape_on table l rows = joined_tape table.plan table.limits table.routes l rows

-- an attempt that is refused as abandoned
abbrev pub is_abandonment : Reason → Bool
is_abandonment Mutilated = false
is_abandonment Unknown = false
is_abandonment Abandoned = true
is_abandonment TimedOut = false

abbrev pub is_abandoned : Dialled → Bool
is_abandoned (dialled.Number digits) = false
is_abandoned (dialled.Refused reason heard) = is_abandonment reason

-- what comes of an attempt is certain: the line was released after it, or it has an outcome without that
abbrev pub is_settled : Table → Attempt → Bool
is_settled table attempt =
    attempt.released || not (is_abandoned (outcome_of table.plan table.limits attempt.runs))

-- the entries of the attempts of line l of which it is certain what comes, joined
abbrev pub settled_tape : Table → ℕ → List LoopRow → List Mark
settled_tape table l rows =
    flat_map (λ attempt. marks_of (order_of table.routes (outcome_of table.plan table.limits attempt.runs)))
    (filter (is_settled table) (attempts_of table.limits (record_of l rows)))

-- the tape, or all of it but the refusal at its end of an attempt that goes on
abbrev pub LackARefusalAtMost : List Mark → List Mark → Type 0
LackARefusalAtMost marks tape =
    (marks ≡ tape) ⊎ ((heard : ℕ) × (tape ≡ marks ++ mark.Refused Abandoned heard ∷ []))

-- what the marks so far are
pub record KeepsPromises (table : Table) (rows : List LoopRow) (marks : List (On Mark)) : Type 0 where
  -- they are what the chain makes of the rows
  pub chain : marks ≡ marks_of_rows table rows
  -- those of a line are what the chain makes of the line's rows
  pub own_rows : (l : ℕ) → of_line on_line_of l marks ≡ marks_of_rows table (rows_of l rows)
  -- whatever rows come later, those of a line are the first of its tape: nothing is taken back
  pub never_back : (l : ℕ) (later : List LoopRow)
      → IsPrefix (marks_on l marks) (tape_on table l (rows ++ later))
  -- once a line is closed, they are all of it
  pub whole : (l : ℕ) → closes (rows_of l rows) ≡ true → marks_on l marks ≡ tape_on table l rows
  -- until then they are the entries of the attempts of which it is certain what comes: no less, and no more
  pub prompt : (l : ℕ) → closes (rows_of l rows) ≡ false
      → marks_on l marks ≡ settled_tape table l rows
  -- so they lack nothing of the tape of these rows but the refusal of an attempt that goes on
  pub lacking : (l : ℕ) → closes (rows_of l rows) ≡ false
      → LackARefusalAtMost (marks_on l marks) (tape_on table l rows)
