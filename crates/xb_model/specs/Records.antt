-- The record of a line, cut at releases into attempts, and an attempt cut at pauses into pulse
-- trains.
use Rattle.std.specs.Prelude.{ℕ, ◌+◌, List, [], ◌∷◌, Bool, true, false, ◌&&◌, if◌then◌else◌, nat_le, ◌==◌}
use Rattle.std.specs.List.{filter, list_any}
use Rattle.xb_model.specs.declared.row.Contact.{Contact}
use Rattle.xb_model.specs.declared.row.Contact.TheVariants.{Make, Brk, Close}
use Rattle.xb_model.specs.declared.limits.Limits.{Limits}
use Rattle.xb_model.specs.Rows.{LoopRow}
use Rattle.xb_model.specs.Lines.{row_line, of_line}

-- one contact, and for how many ms
pub record Run : Type 0 where
  pub contact : Contact
  pub ms : ℕ

abbrev pub run_of : Contact → ℕ → Run
run_of contact ms = record { contact = contact; ms = ms }

abbrev pub make : ℕ → Run
make ms = run_of Make ms

abbrev pub break : ℕ → Run
break ms = run_of Brk ms

abbrev pub same_contact : Contact → Contact → Bool
same_contact Make Make = true
same_contact Brk Brk = true
same_contact Close Close = true
same_contact _ _ = false

abbrev pub is_close : Contact → Bool
is_close contact = same_contact contact Close

abbrev pub is_make : Run → Bool
is_make run = same_contact run.contact Make

abbrev pub is_break : Run → Bool
is_break run = same_contact run.contact Brk

-- a close comes
abbrev pub closes : List LoopRow → Bool
closes rows = list_any (λ row. is_close row.contact) rows

-- the rows of line l
abbrev pub rows_of : ℕ → List LoopRow → List LoopRow
rows_of l rows = of_line row_line l rows

-- what rows of one line say up to their first close, those of 0 ms left out
abbrev pub record_up_to_close : List LoopRow → List Run
record_up_to_close [] = []
record_up_to_close (row ∷ rows) =
    if is_close row.contact then []
    else (if row.ms == 0 then record_up_to_close rows
    else run_of row.contact row.ms ∷ record_up_to_close rows)

-- the record of line l, from the rows of all lines
abbrev pub record_of : ℕ → List LoopRow → List Run
record_of l rows = record_up_to_close (rows_of l rows)

-- a run in front: neighbours of one contact add up
abbrev pub join : Run → List Run → List Run
join run [] = run ∷ []
join run (next ∷ rest) =
    if same_contact run.contact next.contact then run_of run.contact (run.ms + next.ms) ∷ rest
    else run ∷ next ∷ rest

-- the longest runs of one contact, each with its summed length
abbrev pub joined : List Run → List Run
joined [] = []
joined (run ∷ rest) = join run (joined rest)

abbrev pub without_first_break : List Run → List Run
without_first_break [] = []
without_first_break (run ∷ rest) = if is_break run then rest else run ∷ rest

-- the runs of a record, of which a break at the front is idle time
abbrev pub runs_of : List Run → List Run
runs_of record_ = without_first_break (joined record_)

-- an attempt: its runs, and whether a release follows
pub record Attempt : Type 0 where
  pub runs : List Run
  pub released : Bool

-- a break of `release` or more
abbrev pub is_release : Limits → Run → Bool
is_release limits run = is_break run && nat_le limits.release run.ms

-- a run before the first piece
abbrev pub into_first : Run → List Attempt → List Attempt
into_first run [] = record { runs = run ∷ []; released = false } ∷ []
into_first run (piece ∷ pieces) = record { runs = run ∷ piece.runs; released = piece.released } ∷ pieces

-- the pieces that are left when runs are cut at every release
abbrev pub pieces_of : Limits → List Run → List Attempt
pieces_of limits [] = []
pieces_of limits (run ∷ rest) =
    if is_release limits run then record { runs = []; released = true } ∷ pieces_of limits rest
    else into_first run (pieces_of limits rest)

abbrev pub has_runs : List Run → Bool
has_runs [] = false
has_runs (run ∷ rest) = true

-- the attempts of a record: the pieces that are not empty
abbrev pub attempts_of : Limits → List Run → List Attempt
attempts_of limits record_ = filter (λ piece. has_runs piece.runs) (pieces_of limits (runs_of record_))

-- a make of `timeout` or more
abbrev pub reaches_timeout : Limits → Run → Bool
reaches_timeout limits run = is_make run && nat_le limits.timeout run.ms

-- the runs up to and with the first make of `timeout` or more
abbrev pub heard : Limits → List Run → List Run
heard limits [] = []
heard limits (run ∷ rest) = run ∷ (if reaches_timeout limits run then [] else heard limits rest)

-- there is such a make
abbrev pub is_timed : Limits → List Run → Bool
is_timed limits runs = list_any (reaches_timeout limits) runs

abbrev pub without_first : List Run → List Run
without_first [] = []
without_first (run ∷ rest) = rest

-- a make of `pause` or more
abbrev pub ends_train : Limits → Run → Bool
ends_train limits run = is_make run && nat_le limits.pause run.ms

-- a pulse train: what comes before the make that ends it, and that make
pub record Train : Type 0 where
  pub inner : List Run
  pub last : Run

-- a run before the first train; before none it belongs to no train
abbrev pub onto_first : Run → List Train → List Train
onto_first run [] = []
onto_first run (train ∷ trains) = record { inner = run ∷ train.inner; last = train.last } ∷ trains

-- the parts that are left when runs are cut after every make of `pause` or more; a last part that
-- ends otherwise is none
abbrev pub cut_at_pauses : Limits → List Run → List Train
cut_at_pauses limits [] = []
cut_at_pauses limits (run ∷ rest) =
    if ends_train limits run then record { inner = []; last = run } ∷ cut_at_pauses limits rest
    else onto_first run (cut_at_pauses limits rest)

-- the pulse trains of an attempt: what is heard after its first make, cut at the pauses
abbrev pub trains_of : Limits → List Run → List Train
trains_of limits attempt = cut_at_pauses limits (without_first (heard limits attempt))
