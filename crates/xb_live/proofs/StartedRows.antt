-- The rows of a line whose keyings wait for starts, one after another.
use Rattle.std.proofs.Common.{◌≡◌, ℕ, ◌+◌, true, false, Bool, List, [], ◌∷◌, ◌++◌, Option, Some, refl, sym, ap, ◌∙◌, append_assoc, append-nil, arith}
use Rattle.std.specs.Prelude.{◌==◌, if◌then◌else◌, cond, count_by, fold, nat_le}
use Rattle.std.proofs.lemmas.List.Sums.{fold-append, sum_by-append}
use Rattle.xb_model.specs.declared.mark.Mark.{Mark}
use Rattle.xb_model.specs.Rows.{LoopRow}
use Rattle.xb_routes.specs.Table.{Table}
use Rattle.xb_trunk.specs.declared.start_dial.Fate.TheVariants.{Waits, Keyed, GivenUp}
use Rattle.xb_trunk.specs.declared.start_dial.TheConstants.{LONGEST_WAIT}
use Rattle.xb_trunk.specs.StartLaws.{Settlement, settled_from, settled_in, settlement_of}
use Rattle.xb_trunk.specs.Starts.{Dial, Event, clock, lead, after, after_clock, dial_after, fate_at, is_ready, no_dial}
use Rattle.xb_trunk.proofs.Settlements.{dial_of}
use Rattle.xb_trunk.specs.Sounded.{Step, step_of}
use Rattle.xb_live.specs.Starting.{Started, call_in, events_after, events_in, events_of, given_up_in, is_given_up, keyed_in, marks_by_start, clock_by, other_by, step_in, steps_by, steps_from, up_with}
use Rattle.xb_live.specs.Steps.{marks_by}
use Rattle.xb_live.specs.Sounding.{HasStarted}

module _ (table : Table) (line start : ℕ) where
  events-none : (earlier : List LoopRow) → events_after table line start earlier [] ≡ []
  unfolding events_after
  events-none earlier = refl

  events-cons : (earlier : List LoopRow) (row : LoopRow) (rows : List LoopRow) → events_after table line start earlier (row ∷ rows) ≡ events_in table line start earlier row ++ events_after table line start (earlier ++ row ∷ []) rows
  unfolding events_after
  events-cons earlier row rows = refl

  events-append : (earlier xs ys : List LoopRow) → events_after table line start earlier (xs ++ ys) ≡ events_after table line start earlier xs ++ events_after table line start (earlier ++ xs) ys
  events-append earlier [] ys =
      ap (λ rows. events_after table line start rows ys) (sym (append-nil earlier))
      ∙ ap (λ front. front ++ events_after table line start (earlier ++ []) ys) (sym (events-none earlier))
  events-append earlier (x ∷ xs) ys =
      events-cons earlier x (xs ++ ys)
      ∙ ap (λ later. events_in table line start earlier x ++ later)
      (events-append (earlier ++ x ∷ []) xs ys
      ∙ ap (λ rows. events_after table line start (earlier ++ x ∷ []) xs ++ events_after table line start rows ys) (append_assoc earlier (x ∷ []) xs))
      ∙ sym (append_assoc (events_in table line start earlier x) (events_after table line start (earlier ++ x ∷ []) xs) (events_after table line start (earlier ++ x ∷ xs) ys))
      ∙ ap (λ front. front ++ events_after table line start (earlier ++ x ∷ xs) ys) (sym (events-cons earlier x xs))

  -- a row more
  pub events-more : (rows : List LoopRow) (row : LoopRow) → events_of table line start (rows ++ row ∷ []) ≡ events_of table line start rows ++ events_in table line start rows row
  events-more rows row =
      events-append [] rows (row ∷ [])
      ∙ ap (λ later. events_of table line start rows ++ later)
      (events-cons rows row [] ∙ ap (λ later. events_in table line start rows row ++ later) (events-none (rows ++ row ∷ [])) ∙ append-nil (events_in table line start rows row))

  pub events-none-yet : events_of table line start [] ≡ []
  events-none-yet = events-none []

  pub events-later : (xs ys : List LoopRow) → events_of table line start (xs ++ ys) ≡ events_of table line start xs ++ events_after table line start xs ys
  events-later xs ys = events-append [] xs ys

pub steps-from-append : (d : Dial) (xs ys : List Event) → steps_from d (xs ++ ys) ≡ steps_from d xs ++ steps_from (fold after d xs) ys
steps-from-append d [] ys = refl
steps-from-append d (x ∷ xs) ys =
    ap (λ (l : List Step). step_in d x ++ l) (steps-from-append (after d x) xs ys)
    ∙ sym (append_assoc (step_in d x) (steps_from (after d x) xs) (steps_from (fold after (after d x) xs) ys))

settled-append : (d : Dial) (xs ys : List Event) → settled_from d (xs ++ ys) ≡ settled_from d xs ++ settled_from (fold after d xs) ys
settled-append d [] ys = refl
settled-append d (x ∷ xs) ys =
    ap (λ (l : List Settlement). settled_in d x ++ l) (settled-append (after d x) xs ys)
    ∙ sym (append_assoc (settled_in d x) (settled_from (after d x) xs) (settled_from (fold after (after d x) xs) ys))

-- how many are given up with a row more
up-more : (events : List Event) (event : Event) → given_up_in (events ++ event ∷ []) ≡ given_up_in events + count_by is_given_up (settled_in (dial_after events) event)
up-more events event =
    ap (count_by is_given_up) (settled-append no_dial events (event ∷ []) ∙ ap (λ (l : List Settlement). settled_from no_dial events ++ l) (append-nil (settled_in (dial_after events) event)))
    ∙ sum_by-append (λ (settlement : Settlement). cond (is_given_up settlement) 1 0) (settled_from no_dial events) (settled_in (dial_after events) event)

none-more : (n : ℕ) → n ≡ n + 0
none-more n = omega arith

up-some : (t u : Bool) (x : List Mark) (xs : List (List Mark)) (n : ℕ) → n + count_by is_given_up (settlement_of (if t then Keyed else if u then GivenUp else Waits) (x ∷ xs)) ≡ up_with (if t then Keyed else if u then GivenUp else Waits) n
up-some true u x xs n = omega arith
up-some false true x xs n = omega arith
up-some false false x xs n = omega arith

up-one : (l m n s : ℕ) (k : Option ℕ) (w : List (List Mark)) (ms : ℕ) (marks : List Mark) (count : ℕ)
    → count + count_by is_given_up (settled_in (dial_of l m n s k w) (clock ms marks)) ≡ up_with (fate_at (dial_of l m n s k w) (n + ms)) count
up-one l m n s k [] ms marks count = omega arith
up-one l m n s k (x ∷ xs) ms marks count = up-some (is_ready (n + ms) k) (nat_le (s + LONGEST_WAIT) (n + ms)) x xs count

up-clock : (d : Dial) (ms : ℕ) (marks : List Mark) (count : ℕ) → count + count_by is_given_up (settled_in d (clock ms marks)) ≡ up_with (fate_at d (d.now_ms + ms)) count
up-clock d ms marks count = up-one d.lead_ms d.make_ms d.now_ms d.since_ms d.wink d.waiting ms marks count

module _ (table : Table) (line : ℕ) (started : Started) (rows : List LoopRow) (row : LoopRow) (marks : List Mark) (marks_here : marks_by table rows row ≡ marks) where
  -- the events of a row of the line, and of another one
  events-here : (start : ℕ) → (row.line == line) ≡ true → events_of table line start (rows ++ row ∷ []) ≡ events_of table line start rows ++ clock row.ms (call_in marks) ∷ []
  events-here start on =
      events-more table line start rows row
      ∙ ap (λ (here : Bool). events_of table line start rows ++ (if here then clock row.ms (call_in (marks_by table rows row)) ∷ [] else if row.line == start then lead row.contact row.ms ∷ [] else [])) on
      ∙ ap (λ (ms : List Mark). events_of table line start rows ++ clock row.ms (call_in ms) ∷ []) marks_here

  events-other : (start : ℕ) → (row.line == line) ≡ false → events_of table line start (rows ++ row ∷ []) ≡ events_of table line start rows ++ (if row.line == start then lead row.contact row.ms ∷ [] else [])
  events-other start off =
      events-more table line start rows row
      ∙ ap (λ (here : Bool). events_of table line start rows ++ (if here then clock row.ms (call_in (marks_by table rows row)) ∷ [] else if row.line == start then lead row.contact row.ms ∷ [] else [])) off

  pub here-steps : (start : ℕ) → (row.line == line) ≡ true → HasStarted table line (Some start) started rows
      → steps_by table line (Some start) (rows ++ row ∷ []) ≡ steps_by table line (Some start) rows ++ step_of row.ms (marks_by_start (Some start) started row.ms marks) ∷ []
  here-steps start on is =
      let events = events_of table line start rows in
      ap (steps_from no_dial) (events-here start on)
      ∙ steps-from-append no_dial events (clock row.ms (call_in marks) ∷ [])
      ∙ ap (λ (d : Dial). steps_from no_dial events ++ step_of row.ms (keyed_in (fate_at d (d.now_ms + row.ms)) d.waiting) ∷ []) (sym is.0)

  pub here-started : (start : ℕ) → (row.line == line) ≡ true → HasStarted table line (Some start) started rows
      → HasStarted table line (Some start) (clock_by (Some start) started row.ms marks) (rows ++ row ∷ [])
  here-started start on is =
      let events = events_of table line start rows in
      let event = clock row.ms (call_in marks) in (
        ap (λ (d : Dial). after_clock d row.ms (call_in marks)) is.0
            ∙ sym (fold-append after no_dial events (event ∷ []))
            ∙ ap dial_after (sym (events-here start on)),
        ap (up_with (fate_at started.dial (started.dial.now_ms + row.ms))) is.1
            ∙ ap (λ (d : Dial). up_with (fate_at d (d.now_ms + row.ms)) (given_up_in events)) is.0
            ∙ sym (up-clock (dial_after events) row.ms (call_in marks) (given_up_in events))
            ∙ sym (up-more events event)
            ∙ ap given_up_in (sym (events-here start on)),
      )

  other-steps-by : (start : ℕ) (t : Bool) → (row.line == line) ≡ false → (row.line == start) ≡ t
      → steps_by table line (Some start) (rows ++ row ∷ []) ≡ steps_by table line (Some start) rows
  other-steps-by start true off is =
      ap (steps_from no_dial) (events-other start off ∙ ap (λ (here : Bool). events_of table line start rows ++ (if here then lead row.contact row.ms ∷ [] else [])) is)
      ∙ steps-from-append no_dial (events_of table line start rows) (lead row.contact row.ms ∷ [])
      ∙ append-nil (steps_from no_dial (events_of table line start rows))
  other-steps-by start false off is =
      ap (steps_from no_dial) (events-other start off ∙ ap (λ (here : Bool). events_of table line start rows ++ (if here then lead row.contact row.ms ∷ [] else [])) is ∙ append-nil (events_of table line start rows))

  pub other-steps : (start : ℕ) → (row.line == line) ≡ false → steps_by table line (Some start) (rows ++ row ∷ []) ≡ steps_by table line (Some start) rows
  other-steps start off = other-steps-by start (row.line == start) off refl

  abbrev led : Bool → Started
  led t = if t then record { start = started.start; dial = after started.dial (lead row.contact row.ms); given_up = started.given_up } else started

  other-started-by : (start : ℕ) (t : Bool) → (row.line == line) ≡ false → (row.line == start) ≡ t → HasStarted table line (Some start) started rows
      → HasStarted table line (Some start) (led t) (rows ++ row ∷ [])
  other-started-by start true off is has =
      let events = events_of table line start rows in
      let event = lead row.contact row.ms in
      let more : events_of table line start (rows ++ row ∷ []) ≡ events ++ event ∷ [] = events-other start off ∙ ap (λ (here : Bool). events_of table line start rows ++ (if here then lead row.contact row.ms ∷ [] else [])) is in (
        ap (λ (d : Dial). after d event) has.0 ∙ sym (fold-append after no_dial events (event ∷ [])) ∙ ap dial_after (sym more),
        has.1 ∙ none-more (given_up_in events) ∙ sym (up-more events event) ∙ ap given_up_in (sym more),
      )
  other-started-by start false off is has =
      let events = events_of table line start rows in
      let more : events_of table line start (rows ++ row ∷ []) ≡ events = events-other start off ∙ ap (λ (here : Bool). events_of table line start rows ++ (if here then lead row.contact row.ms ∷ [] else [])) is ∙ append-nil events in
      (has.0 ∙ ap dial_after (sym more), has.1 ∙ ap given_up_in (sym more))

  pub other-started : (start : ℕ) → (row.line == line) ≡ false → HasStarted table line (Some start) started rows
      → HasStarted table line (Some start) (other_by (Some start) started row) (rows ++ row ∷ [])
  other-started start off has = other-started-by start (row.line == start) off refl has
