-- The sound of a line's trunk, one row after another.
use Rattle.std.proofs.Common.{◌≡◌, ℕ, true, false, Bool, ◌+◌, ◌*◌, List, [], ◌∷◌, ◌++◌, arith, length, drop, Option, Some, None, refl, sym, ap, ◌∙◌, subst, append_assoc, append-nil}
use Rattle.std.specs.Io.KnownBytes.{Appends}
use Rattle.std.proofs.KnownBytes.{Appends-nil, Appends-trans}
use Rattle.std.specs.List.{flat_map}
use Rattle.std.specs.Prelude.{◌==◌, if◌then◌else◌, OnOk, Result, Ok, Err}
use Rattle.std.proofs.Math.Seq.{drop-append_seam}
use Rattle.std.proofs.lemmas.List.Concat.{flat_map-append}
use Rattle.xb_model.specs.declared.mark.Mark.{Mark}
use Rattle.xb_model.specs.Rows.{LoopRow}
use Rattle.xb_routes.specs.Table.{Table}
use Rattle.xb_sound.specs.declared.cadence.Cadence.{Cadence}
use Rattle.xb_sound.specs.Wavs.{pcm_of, sample_bytes}
use Rattle.xb_text.specs.Writing.{AppendsBeginning}
use Rattle.xb_text.proofs.Beginnings.{AppendsBeginning-second}
use Rattle.xb_trunk.specs.Sounded.{Step, Waits, fitted, left_by, sounded, step_of, waiting_after}
use Rattle.xb_trunk.proofs.Times.{sounded-append, waiting-append}
use Rattle.xb_live.specs.Counting.{Counted, HasCounted, entry_of}
use Rattle.xb_live.specs.Entries.{Entry, entries_of_rows}
use Rattle.xb_trunk.specs.declared.fault.TrunkFault.{TrunkFault}
use Rattle.xb_trunk.specs.Starts.{Dial, dial_after, no_dial}
use Rattle.xb_live.specs.Sounding.{HasSounded, HasStarted, Sounds, sound_of_rows}
use Rattle.xb_live.specs.Starting.{Asked, Started, clock_by, clock_taken, events_after, events_of, given_up_asked, given_up_by, given_up_in, marks_by_start, marks_given, other_by, other_taken, started_of, steps_asked, steps_by, steps_from, up_at_end, up_at_end_by}
use Rattle.xb_live.specs.Steps.{marks_by, steps_after, steps_in, steps_of}
use Rattle.xb_live.proofs.StartedRows.{events-later, events-none-yet, here-started, here-steps, other-started, other-steps, steps-from-append}

module _ (table : Table) (line : ℕ) where
  pub steps-none : (earlier : List LoopRow) → steps_after table line earlier [] ≡ []
  unfolding steps_after
  steps-none earlier = refl

  pub steps-cons : (earlier : List LoopRow) (row : LoopRow) (rows : List LoopRow) → steps_after table line earlier (row ∷ rows) ≡ steps_in table line earlier row ++ steps_after table line (earlier ++ row ∷ []) rows
  unfolding steps_after
  steps-cons earlier row rows = refl

  pub steps-append : (earlier xs ys : List LoopRow) → steps_after table line earlier (xs ++ ys) ≡ steps_after table line earlier xs ++ steps_after table line (earlier ++ xs) ys
  steps-append earlier [] ys =
      ap (λ rows. steps_after table line rows ys) (sym (append-nil earlier))
      ∙ ap (λ front. front ++ steps_after table line (earlier ++ []) ys) (sym (steps-none earlier))
  steps-append earlier (x ∷ xs) ys =
      steps-cons earlier x (xs ++ ys)
      ∙ ap (λ later. steps_in table line earlier x ++ later)
      (steps-append (earlier ++ x ∷ []) xs ys
      ∙ ap (λ rows. steps_after table line (earlier ++ x ∷ []) xs ++ steps_after table line rows ys) (append_assoc earlier (x ∷ []) xs))
      ∙ sym (append_assoc (steps_in table line earlier x) (steps_after table line (earlier ++ x ∷ []) xs) (steps_after table line (earlier ++ x ∷ xs) ys))
      ∙ ap (λ front. front ++ steps_after table line (earlier ++ x ∷ xs) ys) (sym (steps-cons earlier x xs))

  -- the steps of some rows, and of later ones
  pub steps-later : (xs ys : List LoopRow) → steps_of table line (xs ++ ys) ≡ steps_of table line xs ++ steps_after table line xs ys
  steps-later xs ys = steps-append [] xs ys

  -- a row more
  pub steps-more : (rows : List LoopRow) (row : LoopRow) → steps_of table line (rows ++ row ∷ []) ≡ steps_of table line rows ++ steps_in table line rows row
  steps-more rows row =
      steps-append [] rows (row ∷ [])
      ∙ ap (λ later. steps_of table line rows ++ later)
      (steps-cons rows row [] ∙ ap (λ later. steps_in table line rows row ++ later) (steps-none (rows ++ row ∷ [])) ∙ append-nil (steps_in table line rows row))

-- the marks of an entry that there may be
whats_in : (line : ℕ) (marks : List Mark) → flat_map (λ (entry : Entry). entry.what) (entry_of line marks) ≡ marks
whats_in line [] = refl
whats_in line (mark ∷ marks) = append-nil (mark ∷ marks)

-- the steps of later rows
abbrev pub later_by : Table → ℕ → Option ℕ → List LoopRow → List LoopRow → List Step
later_by table line None rows later = steps_after table line rows later
later_by table line (Some start) rows later = steps_from (dial_after (events_of table line start rows)) (events_after table line start rows later)

abbrev pub later_asked : Table → Asked → List LoopRow → List LoopRow → List Step
later_asked table asked rows later = later_by table asked.line asked.start rows later

steps-later-by : (table : Table) (line : ℕ) (start : Option ℕ) (xs ys : List LoopRow) → steps_by table line start (xs ++ ys) ≡ steps_by table line start xs ++ later_by table line start xs ys
steps-later-by table line None xs ys = steps-later table line xs ys
steps-later-by table line (Some start) xs ys =
    ap (steps_from no_dial) (events-later table line start xs ys)
    ∙ steps-from-append no_dial (events_of table line start xs) (events_after table line start xs ys)

pub steps-later-asked : (table : Table) (asked : Asked) (xs ys : List LoopRow) → steps_asked table asked (xs ++ ys) ≡ steps_asked table asked xs ++ later_asked table asked xs ys
steps-later-asked table asked xs ys = steps-later-by table asked.line asked.start xs ys

-- before the first row
none-steps : (table : Table) (line : ℕ) (start : Option ℕ) → steps_by table line start [] ≡ []
none-steps table line None = steps-none table line []
none-steps table line (Some start) = ap (steps_from no_dial) (events-none-yet table line start)

none-started : (table : Table) (line : ℕ) (start : Option ℕ) → HasStarted table line start (started_of start) []
none-started table line None = refl
none-started table line (Some start) =
    (ap dial_after (sym (events-none-yet table line start)), ap given_up_in (sym (events-none-yet table line start)))

pub sounded-none : (asked : Asked) (office : Counted) (started : Started) (trunk : Waits) (out : Option (List ℕ)) → HasCounted office [] → started ≡ started_of asked.start → trunk.waiting ≡ []
    → HasSounded asked trunk.cadence office started trunk [] out out
sounded-none asked office started trunk out counted fresh silent =
    let none : steps_asked office.live.table asked [] ≡ [] = none-steps office.live.table asked.line asked.start in
    record {
      counted = counted;
      asked_is = ap (λ (s : Started). s.start) fresh;
      waited = subst (λ (s : Started). HasStarted office.live.table asked.line asked.start s []) (sym fresh) (none-started office.live.table asked.line asked.start);
      cadence_is = refl;
      waits = silent ∙ sym (ap (waiting_after trunk.cadence []) none);
      written = subst (Appends out out) (sym (ap (λ steps. pcm_of (sounded trunk.cadence [] steps)) none)) (Appends-nil out);
    }

-- how many keyings are given up, where the rows end
ended-by : (table : Table) (line : ℕ) (start : Option ℕ) (started : Started) (rows : List LoopRow) → HasStarted table line start started rows → up_at_end_by start started ≡ given_up_by table line start rows
ended-by table line None started rows has = refl
ended-by table line (Some start) started rows has =
    ap (λ (n : ℕ). n + length started.dial.waiting) has.1
    ∙ ap (λ (d : Dial). given_up_in (events_of table line start rows) + length d.waiting) has.0

pub up-ended : (asked : Asked) (cadence : Cadence) (office : Counted) (started : Started) (trunk : Waits) (rows : List LoopRow) (start out : Option (List ℕ)) → HasSounded asked cadence office started trunk rows start out
    → up_at_end started ≡ given_up_asked office.live.table asked rows
up-ended asked cadence office started trunk rows start out sounds =
    ap (λ (s : Option ℕ). up_at_end_by s started) sounds.asked_is
    ∙ ended-by office.live.table asked.line asked.start started rows sounds.waited

module _ (asked : Asked) (cadence : Cadence) (office after : Counted) (started : Started) (trunk : Waits) (row : LoopRow) (rows : List LoopRow) (marks : List Mark) (start mid : Option (List ℕ))
    (same : after.live.table ≡ office.live.table)
    (before : HasSounded asked cadence office started trunk rows start mid)
    (counted : HasCounted after (rows ++ row ∷ []))
    (completed : entries_of_rows office.live.table (rows ++ row ∷ []) ≡ entries_of_rows office.live.table rows ++ entry_of row.line marks) where
  abbrev table : Table
  table = office.live.table

  abbrev earlier : List Step
  earlier = steps_asked table asked rows

  abbrev given : List Mark
  given = marks_given started row.ms marks

  marks-here : marks_by table rows row ≡ marks
  marks-here =
      ap (λ entries. flat_map (λ (entry : Entry). entry.what) (drop (length (entries_of_rows table rows)) entries)) completed
      ∙ ap (flat_map (λ (entry : Entry). entry.what)) (drop-append_seam (entries_of_rows table rows) (entry_of row.line marks))
      ∙ whats_in row.line marks

  -- the steps after a row of the line, and after one of another line
  here-by : (o : Option ℕ) → (row.line == asked.line) ≡ true → HasStarted table asked.line o started rows
      → steps_by table asked.line o (rows ++ row ∷ []) ≡ steps_by table asked.line o rows ++ step_of row.ms (marks_by_start o started row.ms marks) ∷ []
  here-by None on has =
      steps-more table asked.line rows row
      ∙ ap (λ (here : Bool). steps_of table asked.line rows ++ (if here then step_of row.ms (marks_by table rows row) ∷ [] else [])) on
      ∙ ap (λ ms. steps_of table asked.line rows ++ step_of row.ms ms ∷ []) marks-here
  here-by (Some s) on has = here-steps table asked.line started rows row marks marks-here s on has

  other-by : (o : Option ℕ) → (row.line == asked.line) ≡ false → steps_by table asked.line o (rows ++ row ∷ []) ≡ steps_by table asked.line o rows
  other-by None off =
      steps-more table asked.line rows row
      ∙ ap (λ (here : Bool). steps_of table asked.line rows ++ (if here then step_of row.ms (marks_by table rows row) ∷ [] else [])) off
      ∙ append-nil (steps_of table asked.line rows)
  other-by (Some s) off = other-steps table asked.line started rows row marks marks-here s off

  here-waited-by : (o : Option ℕ) → (row.line == asked.line) ≡ true → HasStarted table asked.line o started rows → HasStarted table asked.line o (clock_by o started row.ms marks) (rows ++ row ∷ [])
  here-waited-by None on has = has
  here-waited-by (Some s) on has = here-started table asked.line started rows row marks marks-here s on has

  other-waited-by : (o : Option ℕ) → (row.line == asked.line) ≡ false → HasStarted table asked.line o started rows → HasStarted table asked.line o (other_by o started row) (rows ++ row ∷ [])
  other-waited-by None off has = has
  other-waited-by (Some s) off has = other-started table asked.line started rows row marks marks-here s off has

  steps-here : (row.line == asked.line) ≡ true → steps_asked table asked (rows ++ row ∷ []) ≡ earlier ++ step_of row.ms given ∷ []
  steps-here on =
      here-by asked.start on before.waited
      ∙ ap (λ (o : Option ℕ). earlier ++ step_of row.ms (marks_by_start o started row.ms marks) ∷ []) (sym before.asked_is)

  steps-other : (row.line == asked.line) ≡ false → steps_asked table asked (rows ++ row ∷ []) ≡ earlier
  steps-other off = other-by asked.start off

  bytes-here : (row.line == asked.line) ≡ true → sound_of_rows asked cadence table rows ++ pcm_of (fitted (row.ms * 8) trunk.waiting) ≡ sound_of_rows asked cadence table (rows ++ row ∷ [])
  bytes-here on =
      let step : Step = step_of row.ms given in
      let waiting = waiting_after cadence [] earlier in
      ap (λ xs. sound_of_rows asked cadence table rows ++ pcm_of (fitted (row.ms * 8) xs)) before.waits
      ∙ sym (flat_map-append sample_bytes (sounded cadence [] earlier) (fitted (row.ms * 8) waiting))
      ∙ ap (λ xs. pcm_of (sounded cadence [] earlier ++ xs)) (sym (append-nil (fitted (row.ms * 8) waiting)))
      ∙ ap pcm_of (sym (sounded-append cadence [] earlier (step ∷ [])))
      ∙ ap (λ steps. pcm_of (sounded cadence [] steps)) (sym (steps-here on))

  waited-here : (row.line == asked.line) ≡ true → (next : Started) → next ≡ clock_taken started row.ms marks → HasStarted after.live.table asked.line asked.start next (rows ++ row ∷ [])
  waited-here on next is =
      subst (λ (t : Table). HasStarted t asked.line asked.start next (rows ++ row ∷ [])) (sym same)
      (subst (λ (s : Started). HasStarted table asked.line asked.start s (rows ++ row ∷ []))
      (sym (is ∙ ap (λ (o : Option ℕ). clock_by o started row.ms marks) before.asked_is))
      (here-waited-by asked.start on before.waited))

  waited-other : (row.line == asked.line) ≡ false → (next : Started) → next ≡ other_taken started row → HasStarted after.live.table asked.line asked.start next (rows ++ row ∷ [])
  waited-other off next is =
      subst (λ (t : Table). HasStarted t asked.line asked.start next (rows ++ row ∷ [])) (sym same)
      (subst (λ (s : Started). HasStarted table asked.line asked.start s (rows ++ row ∷ []))
      (sym (is ∙ ap (λ (o : Option ℕ). other_by o started row) before.asked_is))
      (other-waited-by asked.start off before.waited))

  clock-start : (o : Option ℕ) → (clock_by o started row.ms marks).start ≡ started.start
  clock-start None = refl
  clock-start (Some s) = refl

  other-start : (o : Option ℕ) → (other_by o started row).start ≡ started.start
  other-start None = refl
  other-start (Some s) = grind arith

  pub here-ok : (row.line == asked.line) ≡ true → (next : Waits) (waited : Started) (new : Option (List ℕ))
      → waited ≡ clock_taken started row.ms marks
      → Appends mid new (pcm_of (fitted (row.ms * 8) trunk.waiting))
      → next.waiting ≡ left_by trunk.cadence trunk.waiting (step_of row.ms given) → next.cadence ≡ trunk.cadence
      → HasSounded asked cadence after waited next (rows ++ row ∷ []) start new
  here-ok on next waited new takes writes waits kept = record {
    counted = counted;
    asked_is = ap (λ (s : Started). s.start) takes ∙ clock-start started.start ∙ before.asked_is;
    waited = waited-here on waited takes;
    cadence_is = kept ∙ before.cadence_is;
    waits =
        waits
        ∙ ap (λ c. left_by c trunk.waiting (step_of row.ms given)) before.cadence_is
        ∙ ap (λ xs. left_by cadence xs (step_of row.ms given)) before.waits
        ∙ sym (waiting-append cadence [] earlier (step_of row.ms given ∷ []))
        ∙ ap (waiting_after cadence []) (sym (steps-here on))
        ∙ ap (λ t. waiting_after cadence [] (steps_asked t asked (rows ++ row ∷ []))) (sym same);
    written =
        subst (λ t. Appends start new (sound_of_rows asked cadence t (rows ++ row ∷ []))) (sym same)
        (subst (Appends start new) (bytes-here on) (Appends-trans start mid new (sound_of_rows asked cadence table rows) (pcm_of (fitted (row.ms * 8) trunk.waiting)) before.written writes));
  }

  pub here-beginning : (row.line == asked.line) ≡ true → (new : Option (List ℕ))
      → AppendsBeginning mid new (pcm_of (fitted (row.ms * 8) trunk.waiting))
      → AppendsBeginning start new (sound_of_rows asked cadence after.live.table (rows ++ row ∷ []))
  here-beginning on new begun =
      subst (λ t. AppendsBeginning start new (sound_of_rows asked cadence t (rows ++ row ∷ []))) (sym same)
      (subst (AppendsBeginning start new) (bytes-here on)
      (AppendsBeginning-second start mid new (sound_of_rows asked cadence table rows) (pcm_of (fitted (row.ms * 8) trunk.waiting)) before.written begun))

  -- nothing was written of a row whose keyings were not taken
  pub here-untaken : (row.line == asked.line) ≡ true → AppendsBeginning start mid (sound_of_rows asked cadence after.live.table (rows ++ row ∷ []))
  here-untaken on =
      subst (λ t. AppendsBeginning start mid (sound_of_rows asked cadence t (rows ++ row ∷ []))) (sym same)
      (subst (AppendsBeginning start mid) (bytes-here on)
      (AppendsBeginning-second start mid mid (sound_of_rows asked cadence table rows) (pcm_of (fitted (row.ms * 8) trunk.waiting)) before.written (0, Appends-nil mid)))

  pub other-ok : (row.line == asked.line) ≡ false → (waited : Started) → waited ≡ other_taken started row → HasSounded asked cadence after waited trunk (rows ++ row ∷ []) start mid
  other-ok off waited takes =
      let more : steps_asked table asked rows ≡ steps_asked after.live.table asked (rows ++ row ∷ []) =
      sym (steps-other off) ∙ ap (λ t. steps_asked t asked (rows ++ row ∷ [])) (sym same) in
      record {
        counted = counted;
        asked_is = ap (λ (s : Started). s.start) takes ∙ other-start started.start ∙ before.asked_is;
        waited = waited-other off waited takes;
        cadence_is = before.cadence_is;
        waits = before.waits ∙ ap (waiting_after cadence []) more;
        written = subst (λ steps. Appends start mid (pcm_of (sounded cadence [] steps))) more before.written;
      }

  -- what came of a row of the line
  pub here-sounds : (row.line == asked.line) ≡ true → (next : Waits) (waited : Started) (new : Option (List ℕ)) (ms : ℕ) (taken : List Mark) (result : Result (Unit {0}) TrunkFault)
      → ms ≡ row.ms → taken ≡ given → waited ≡ clock_taken started row.ms marks
      → OnOk result (Appends mid new (pcm_of (fitted (ms * 8) trunk.waiting))) → AppendsBeginning mid new (pcm_of (fitted (ms * 8) trunk.waiting))
      → OnOk result (next.waiting ≡ left_by trunk.cadence trunk.waiting (step_of ms taken)) → next.cadence ≡ trunk.cadence
      → Sounds asked cadence after waited next (rows ++ row ∷ []) result start new
  here-sounds on next waited new ms taken (Ok tt) lasts are takes whole beginning waits kept =
      here-ok on next waited new takes (subst (λ k. Appends mid new (pcm_of (fitted (k * 8) trunk.waiting))) lasts whole)
      (waits ∙ ap (λ k. left_by trunk.cadence trunk.waiting (step_of k taken)) lasts ∙ ap (λ xs. left_by trunk.cadence trunk.waiting (step_of row.ms xs)) are) kept
  here-sounds on next waited new ms taken (Err f) lasts are takes whole beginning waits kept =
      here-beginning on new (subst (λ k. AppendsBeginning mid new (pcm_of (fitted (k * 8) trunk.waiting))) lasts beginning)
