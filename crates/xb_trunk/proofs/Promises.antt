-- What holds after any rows, and so what start dial promises.
use Rattle.std.proofs.Common.{◌≡◌, ◌≤◌, ℕ, ◌+◌, Bool, true, false, List, [], ◌∷◌, ◌++◌, drop, Option, Some, None, refl, sym, ap, ◌∙◌, subst, arith, append_assoc, append-nil, ◌<◌, leb-true, leb-false, zero-add}
use Rattle.std.proofs.lemmas.List.Concat.{flat_map-append}
use Rattle.std.proofs.lemmas.List.Sums.{sum_by-append}
use Rattle.std.specs.Prelude.{◌==◌, fold, nat_le, if◌then◌else◌}
use Rattle.xb_model.specs.Records.{Run, is_make, run_of}
use Rattle.xb_model.specs.declared.mark.Mark.{Mark}
use Rattle.xb_model.specs.declared.row.Contact.{Contact}
use Rattle.xb_model.specs.declared.row.Contact.TheVariants.{Make, Brk, Close}
use Rattle.xb_trunk.specs.declared.start_dial.Fate.TheVariants.{Idle, Waits, Keyed, GivenUp}
use Rattle.xb_trunk.specs.declared.start_dial.TheConstants.{AFTER_WINK, LONGEST_WAIT}
use Rattle.xb_trunk.specs.StartLaws.{GivenUpWithoutWink, HasItsWink, LacksItsWink, NoKeyWithoutWink}
use Rattle.xb_trunk.specs.Leads.{EndsWink, HasWink, IsCompleted, clock_in, lasting, last_make, leads, leads_in, time_of}
use Rattle.xb_trunk.specs.Starts.{Dial, Event, clock, lead, after, dial_after, fate_at, first_of, is_ready, keyings_of, lead_by, no_dial, settled, wink_with, with_keying}
use Rattle.xb_trunk.proofs.Rows.{lasting-more, make-more, make-none, none-split, true-false}
use Rattle.xb_trunk.proofs.Settlements.{dial_of}
use Rattle.xb_trunk.proofs.Winks.{IsBy, IsKept, IsKnown, kept-break, kept-make, known-break, known-more}

leads-more : (events : List Event) (event : Event) → leads (events ++ event ∷ []) ≡ leads events ++ leads_in event
leads-more events event =
    flat_map-append leads_in events (event ∷ []) ∙ ap (λ (l : List Run). leads events ++ l) (append-nil (leads_in event))

time-more : (events : List Event) (event : Event) → time_of (events ++ event ∷ []) ≡ time_of events + clock_in event
time-more events event =
    sum_by-append clock_in events (event ∷ []) ∙ ap (λ (n : ℕ). time_of events + n) (zero-add (clock_in event))

-- all of these keyings were completed by then, and the first of them
abbrev pub AreCompleted : List Event → ℕ → List (List Mark) → Type 0
AreCompleted events by [] = Unit {0}
AreCompleted events by (x ∷ xs) = IsCompleted events x by × AreCompleted events by xs

abbrev pub IsFirstCompleted : List Event → ℕ → List (List Mark) → Type 0
IsFirstCompleted events by [] = Unit {0}
IsFirstCompleted events by (x ∷ xs) = IsCompleted events x by

completed-more : (events : List Event) (event : Event) (marks : List Mark) (by later : ℕ) → by ≤ later → IsCompleted events marks by → IsCompleted (events ++ event ∷ []) marks later
completed-more events event marks by later grows is =
    let at = is.at in
    record {
      earlier = is.earlier;
      ms = is.ms;
      later = is.later ++ event ∷ [];
      are = ap (λ (l : List Event). l ++ event ∷ []) is.are ∙ append_assoc is.earlier (clock is.ms marks ∷ is.later) (event ∷ []);
      at = omega (arith, at, grows);
    }

all-more : (events : List Event) (event : Event) (by later : ℕ) → by ≤ later → (xs : List (List Mark)) → AreCompleted events by xs → AreCompleted (events ++ event ∷ []) later xs
all-more events event by later grows [] are = tt
all-more events event by later grows (x ∷ xs) are = (completed-more events event x by later grows are.0, all-more events event by later grows xs are.1)

first-more : (events : List Event) (event : Event) (by : ℕ) (xs : List (List Mark)) → IsFirstCompleted events by xs → IsFirstCompleted (events ++ event ∷ []) by xs
first-more events event by [] is = tt
first-more events event by (x ∷ xs) is = completed-more events event x by by (omega arith) is

all-append : (events : List Event) (by : ℕ) (xs ys : List (List Mark)) → AreCompleted events by xs → AreCompleted events by ys → AreCompleted events by (xs ++ ys)
all-append events by [] ys first second = second
all-append events by (x ∷ xs) ys first second = (first.0, all-append events by xs ys first.1 second)

all-drop : (events : List Event) (by : ℕ) (xs : List (List Mark)) → AreCompleted events by xs → AreCompleted events by (drop 1 xs)
all-drop events by [] are = tt
all-drop events by (x ∷ xs) are = are.1

all-first : (events : List Event) (by : ℕ) (xs : List (List Mark)) → AreCompleted events by xs → IsFirstCompleted events by xs
all-first events by [] are = tt
all-first events by (x ∷ xs) are = are.0

-- a row's own keying is completed with its end
new-completed : (events : List Event) (ms : ℕ) (marks : List Mark) → AreCompleted (events ++ clock ms marks ∷ []) (time_of events + ms) (keyings_of marks)
new-completed events ms [] = tt
new-completed events ms (mark ∷ marks) = (record { earlier = events; ms = ms; later = []; are = refl; at = omega arith }, tt)

-- the moment since when the first keying waits, among the rows, and what is kept of those since then
pub record IsSince (events : List Event) (since : ℕ) (wink : Option ℕ) : Type 0 where
  pub earlier : List Event
  pub later : List Event
  pub are : events ≡ earlier ++ later
  pub at : time_of earlier ≡ since
  pub kept : IsKept (leads earlier) (leads later) since wink

-- what holds after rows
pub record Holds (events : List Event) (d : Dial) : Type 0 where
  pub lasts : d.lead_ms ≡ lasting (leads events)
  pub makes : d.make_ms ≡ last_make (leads events)
  pub now : d.now_ms ≡ time_of events
  pub since : IsSince events d.since_ms d.wink
  pub known : IsKnown (leads events) d.since_ms d.wink
  pub all : AreCompleted events d.now_ms d.waiting
  pub first : IsFirstCompleted events d.since_ms d.waiting

-- a row more, that says nothing of the lead
since-quiet : (events : List Event) (event : Event) (since : ℕ) (wink : Option ℕ) → leads_in event ≡ [] → IsSince events since wink → IsSince (events ++ event ∷ []) since wink
since-quiet events event since wink quiet is = record {
  earlier = is.earlier;
  later = is.later ++ event ∷ [];
  are = ap (λ (l : List Event). l ++ event ∷ []) is.are ∙ append_assoc is.earlier is.later (event ∷ []);
  at = is.at;
  kept =
      subst (λ (l : List Run). IsKept (leads is.earlier) l since wink)
      (sym (leads-more is.later event ∙ ap (λ (l : List Run). leads is.later ++ l) quiet ∙ append-nil (leads is.later))) is.kept;
}

leads-quiet : (events : List Event) (event : Event) → leads_in event ≡ [] → leads events ≡ leads (events ++ event ∷ [])
leads-quiet events event quiet = sym (leads-more events event ∙ ap (λ (l : List Run). leads events ++ l) quiet ∙ append-nil (leads events))

-- the rows of the lead, where one more says something
leads-said : (events : List Event) (event : Event) (row : Run) → leads_in event ≡ row ∷ [] → leads events ++ row ∷ [] ≡ leads (events ++ event ∷ [])
leads-said events event row said = sym (leads-more events event ∙ ap (λ (l : List Run). leads events ++ l) said)

since-said : (events : List Event) (event : Event) (row : Run) (since : ℕ) (old new : Option ℕ) → leads_in event ≡ row ∷ []
    → ((before later : List Run) → leads events ≡ before ++ later → IsKept before later since old → IsKept before (later ++ row ∷ []) since new)
    → IsSince events since old → IsSince (events ++ event ∷ []) since new
since-said events event row since old new said keeps is = record {
  earlier = is.earlier;
  later = is.later ++ event ∷ [];
  are = ap (λ (l : List Event). l ++ event ∷ []) is.are ∙ append_assoc is.earlier is.later (event ∷ []);
  at = is.at;
  kept =
      subst (λ (l : List Run). IsKept (leads is.earlier) l since new) (leads-said is.later event row said)
      (keeps (leads is.earlier) (leads is.later) (ap leads is.are ∙ flat_map-append leads_in is.earlier is.later) is.kept);
}

module _ (events : List Event) (d : Dial) (h : Holds events d) where
  time-lead : (contact : Contact) (ms : ℕ) → d.now_ms ≡ time_of (events ++ lead contact ms ∷ [])
  time-lead contact ms =
      let more : time_of (events ++ lead contact ms ∷ []) ≡ time_of events + 0 = time-more events (lead contact ms) in
      let now = h.now in
      omega (arith, more, now)

  lead-none : (contact : Contact) (ms : ℕ) → leads_in (lead contact ms) ≡ [] → Holds (events ++ lead contact ms ∷ []) d
  lead-none contact ms quiet =
      let same = leads-quiet events (lead contact ms) quiet in
      record {
        lasts = h.lasts ∙ ap lasting same;
        makes = h.makes ∙ ap last_make same;
        now = time-lead contact ms;
        since = since-quiet events (lead contact ms) d.since_ms d.wink quiet h.since;
        known = subst (λ (l : List Run). IsKnown l d.since_ms d.wink) same h.known;
        all = all-more events (lead contact ms) d.now_ms d.now_ms (omega arith) d.waiting h.all;
        first = first-more events (lead contact ms) d.since_ms d.waiting h.first;
      }

  lead-make : (ms : ℕ) → leads_in (lead Make ms) ≡ run_of Make ms ∷ [] → Holds (events ++ lead Make ms ∷ []) (lead_by d Make ms)
  lead-make ms said =
      let more = leads-said events (lead Make ms) (run_of Make ms) said in
      record {
        lasts = ap (λ (n : ℕ). n + ms) h.lasts ∙ sym (lasting-more (leads events) (run_of Make ms)) ∙ ap lasting more;
        makes = ap (λ (n : ℕ). n + ms) h.makes ∙ sym (make-more (leads events) ms) ∙ ap last_make more;
        now = time-lead Make ms;
        since =
            since-said events (lead Make ms) (run_of Make ms) d.since_ms d.wink d.wink said
            (λ before later are kept. kept-make before later ms d.since_ms d.wink kept) h.since;
        known = subst (λ (l : List Run). IsKnown l d.since_ms d.wink) more (known-more (leads events) (run_of Make ms) d.since_ms d.wink h.known);
        all = all-more events (lead Make ms) d.now_ms d.now_ms (omega arith) d.waiting h.all;
        first = first-more events (lead Make ms) d.since_ms d.waiting h.first;
      }

  -- a row that is no make
  abbrev broken : ℕ → Dial
  broken ms = record { lead_ms = d.lead_ms + ms; make_ms = 0; now_ms = d.now_ms; since_ms = d.since_ms; wink = wink_with d d.wink; waiting = d.waiting }

  lead-break : (contact : Contact) (ms : ℕ) → is_make (run_of contact ms) ≡ false → leads_in (lead contact ms) ≡ run_of contact ms ∷ []
      → Holds (events ++ lead contact ms ∷ []) (broken ms)
  lead-break contact ms ends said =
      let row : Run = run_of contact ms in
      let more = leads-said events (lead contact ms) row said in
      record {
        lasts = ap (λ (n : ℕ). n + ms) h.lasts ∙ sym (lasting-more (leads events) row) ∙ ap lasting more;
        makes = sym (make-none (leads events) contact ms ends) ∙ ap last_make more;
        now = time-lead contact ms;
        since =
            since-said events (lead contact ms) row d.since_ms d.wink (wink_with d d.wink) said
            (λ before later are kept. kept-break d (leads events) row h.lasts h.makes ends before later d.wink are h.known kept) h.since;
        known =
            subst (λ (l : List Run). IsKnown l d.since_ms (wink_with d d.wink)) more
            (known-break d (leads events) row h.lasts h.makes ends d.wink h.known);
        all = all-more events (lead contact ms) d.now_ms d.now_ms (omega arith) d.waiting h.all;
        first = first-more events (lead contact ms) d.since_ms d.waiting h.first;
      }

  lead-holds : (contact : Contact) (ms : ℕ) (t : Bool) → (ms == 0) ≡ t → Holds (events ++ lead contact ms ∷ []) (if t then d else lead_by d contact ms)
  lead-holds contact ms true is = lead-none contact ms (ap (λ (b : Bool). if b then [] else run_of contact ms ∷ []) is)
  lead-holds Make ms false is = lead-make ms (ap (λ (b : Bool). if b then [] else run_of Make ms ∷ []) is)
  lead-holds Brk ms false is = lead-break Brk ms refl (ap (λ (b : Bool). if b then [] else run_of Brk ms ∷ []) is)
  lead-holds Close ms false is = lead-break Close ms refl (ap (λ (b : Bool). if b then [] else run_of Close ms ∷ []) is)

  -- the rows after a row of the clock
  time-clock : (ms : ℕ) (marks : List Mark) → d.now_ms + ms ≡ time_of (events ++ clock ms marks ∷ [])
  time-clock ms marks = ap (λ (n : ℕ). n + ms) h.now ∙ sym (time-more events (clock ms marks))

  queued : (ms : ℕ) (marks : List Mark) (xs : List (List Mark)) → AreCompleted events d.now_ms xs
      → AreCompleted (events ++ clock ms marks ∷ []) (d.now_ms + ms) (xs ++ keyings_of marks)
  queued ms marks xs are =
      all-append (events ++ clock ms marks ∷ []) (d.now_ms + ms) xs (keyings_of marks)
      (all-more events (clock ms marks) d.now_ms (d.now_ms + ms) (omega arith) xs are)
      (subst (λ (n : ℕ). AreCompleted (events ++ clock ms marks ∷ []) (n + ms) (keyings_of marks)) (sym h.now) (new-completed events ms marks))

  -- the next one waits from now on
  clock-moved : (ms : ℕ) (marks : List Mark) → Holds (events ++ clock ms marks ∷ []) (with_keying (settled d (d.now_ms + ms) Keyed) marks)
  clock-moved ms marks =
      let same = leads-quiet events (clock ms marks) refl in
      let are = queued ms marks (drop 1 d.waiting) (all-drop events d.now_ms d.waiting h.all) in
      record {
        lasts = h.lasts ∙ ap lasting same;
        makes = h.makes ∙ ap last_make same;
        now = time-clock ms marks;
        since = record {
          earlier = events ++ clock ms marks ∷ [];
          later = [];
          are = sym (append-nil (events ++ clock ms marks ∷ []));
          at = sym (time-clock ms marks);
          kept = λ first row more is ended. absurd (none-split first more row is);
        };
        known = tt;
        all = are;
        first = all-first (events ++ clock ms marks ∷ []) (d.now_ms + ms) (drop 1 d.waiting ++ keyings_of marks) are;
      }

  -- the first one waits on
  clock-waits : (ms : ℕ) (marks : List Mark) (x : List Mark) (xs : List (List Mark)) → d.waiting ≡ x ∷ xs
      → Holds (events ++ clock ms marks ∷ []) (with_keying (settled d (d.now_ms + ms) Waits) marks)
  clock-waits ms marks x xs is =
      let same = leads-quiet events (clock ms marks) refl in
      let here : IsCompleted (events ++ clock ms marks ∷ []) x d.since_ms =
      first-more events (clock ms marks) d.since_ms (x ∷ xs) (subst (IsFirstCompleted events d.since_ms) is h.first) in
      record {
        lasts = h.lasts ∙ ap lasting same;
        makes = h.makes ∙ ap last_make same;
        now = time-clock ms marks;
        since = since-quiet events (clock ms marks) d.since_ms d.wink refl h.since;
        known = subst (λ (l : List Run). IsKnown l d.since_ms d.wink) same h.known;
        all = queued ms marks d.waiting h.all;
        first = subst (λ (w : List (List Mark)). IsFirstCompleted (events ++ clock ms marks ∷ []) d.since_ms (w ++ keyings_of marks)) (sym is) here;
      }

  clock-some : (ms : ℕ) (marks : List Mark) (x : List Mark) (xs : List (List Mark)) (t u : Bool) → d.waiting ≡ x ∷ xs
      → Holds (events ++ clock ms marks ∷ []) (with_keying (settled d (d.now_ms + ms) (if t then Keyed else if u then GivenUp else Waits)) marks)
  clock-some ms marks x xs true u is = clock-moved ms marks
  clock-some ms marks x xs false true is = clock-moved ms marks
  clock-some ms marks x xs false false is = clock-waits ms marks x xs is

clock-holds : (events : List Event) (l m n s : ℕ) (k : Option ℕ) (w : List (List Mark)) (ms : ℕ) (marks : List Mark)
    → Holds events (dial_of l m n s k w) → Holds (events ++ clock ms marks ∷ []) (after (dial_of l m n s k w) (clock ms marks))
clock-holds events l m n s k [] ms marks h = clock-moved events (dial_of l m n s k []) h ms marks
clock-holds events l m n s k (x ∷ xs) ms marks h =
    clock-some events (dial_of l m n s k (x ∷ xs)) h ms marks x xs (is_ready (n + ms) k) (nat_le (s + LONGEST_WAIT) (n + ms)) refl

one-holds : (events : List Event) (d : Dial) (event : Event) → Holds events d → Holds (events ++ event ∷ []) (after d event)
one-holds events d (lead contact ms) h = lead-holds events d h contact ms (ms == 0) refl
one-holds events d (clock ms marks) h = clock-holds events d.lead_ms d.make_ms d.now_ms d.since_ms d.wink d.waiting ms marks h

go : (events rest : List Event) (d : Dial) → Holds events d → Holds (events ++ rest) (fold after d rest)
go events [] d h = subst (λ (l : List Event). Holds l d) (sym (append-nil events)) h
go events (event ∷ rest) d h =
    subst (λ (l : List Event). Holds l (fold after (after d event) rest)) (append_assoc events (event ∷ []) rest)
    (go (events ++ event ∷ []) rest (after d event) (one-holds events d event h))

none-holds : Holds [] no_dial
none-holds = record {
  lasts = refl;
  makes = refl;
  now = refl;
  since = record { earlier = []; later = []; are = refl; at = refl; kept = λ first row more is ended. absurd (none-split first more row is) };
  known = tt;
  all = tt;
  first = tt;
}

pub always-holds : (events : List Event) → Holds events (dial_after events)
always-holds events = go [] events no_dial none-holds

-- what the fates tell of the tests
keyed-ready : (t u : Bool) → (if t then Keyed else if u then GivenUp else Waits) ≡ Keyed → t ≡ true
keyed-ready true u is = refl
keyed-ready false true is = grind (arith, is)
keyed-ready false false is = grind (arith, is)

up-late : (t u : Bool) → (if t then Keyed else if u then GivenUp else Waits) ≡ GivenUp → (t ≡ false) × (u ≡ true)
up-late true u is = absurd (grind (arith, is))
up-late false true is = (refl, refl)
up-late false false is = absurd (grind (arith, is))

idle-keyed : Idle ≡ Keyed → ⊥
idle-keyed is = grind (arith, is)

idle-up : Idle ≡ GivenUp → ⊥
idle-up is = grind (arith, is)

ready-wink : (rows : List Run) (since now : ℕ) (k : Option ℕ) → is_ready now k ≡ true → IsKnown rows since k → HasWink rows since now
ready-wink rows since now None is known = absurd (true-false (sym is))
ready-wink rows since now (Some ended) is known =
    let passed : ended + AFTER_WINK ≤ now = leb-true (ended + AFTER_WINK) now is in
    let at = known.is in
    record {
      earlier = known.earlier;
      row = known.row;
      later = known.later;
      are = known.are;
      wink = known.wink;
      ended = omega (arith, passed, at);
    }

keyed-has : (events : List Event) (l m n s : ℕ) (k : Option ℕ) (w : List (List Mark)) (now : ℕ) → Holds events (dial_of l m n s k w)
    → fate_at (dial_of l m n s k w) now ≡ Keyed → HasItsWink events (first_of w) now
keyed-has events l m n s k [] now h is = absurd (idle-keyed is)
keyed-has events l m n s k (x ∷ xs) now h is = record {
  since = s;
  is_completed = h.first;
  has = ready-wink (leads events) s now k (keyed-ready (is_ready now k) (nat_le (s + LONGEST_WAIT) now) is) h.known;
}

pub no_key_without_wink : NoKeyWithoutWink
no_key_without_wink events ms is =
    let d = dial_after events in
    keyed-has events d.lead_ms d.make_ms d.now_ms d.since_ms d.wink d.waiting (time_of events + ms) (always-holds events) is

-- where no wink is ready, none that is kept ended long enough before now
not-ready : (now at : ℕ) (k : Option ℕ) → is_ready now k ≡ false → IsBy k at → at + AFTER_WINK ≤ now → ⊥
not-ready now at None is by passed = by
not-ready now at (Some ended) is by passed =
    let less : now < ended + AFTER_WINK = leb-false (ended + AFTER_WINK) now is in
    omega (arith, less, by, passed)

up-lacks : (events : List Event) (l m n s : ℕ) (k : Option ℕ) (w : List (List Mark)) (now : ℕ) → Holds events (dial_of l m n s k w)
    → fate_at (dial_of l m n s k w) now ≡ GivenUp → LacksItsWink events (first_of w) now
up-lacks events l m n s k [] now h is = absurd (idle-up is)
up-lacks events l m n s k (x ∷ xs) now h is =
    let tests = up-late (is_ready now k) (nat_le (s + LONGEST_WAIT) now) is in
    let since = h.since in
    let waited : s + LONGEST_WAIT ≤ now = leb-true (s + LONGEST_WAIT) now tests.1 in
    let at : time_of since.earlier ≡ s = since.at in
    record {
      earlier = since.earlier;
      later = since.later;
      are = since.are;
      is_completed = subst (IsCompleted events x) (sym at) h.first;
      waited = subst (λ (z : ℕ). z + LONGEST_WAIT ≤ now) (sym at) waited;
      no_wink = λ first row more is ended passed.
          not-ready now (lasting (leads since.earlier ++ first)) k tests.0
          (since.kept first row more is (subst (EndsWink (leads since.earlier ++ first) row) at ended)) passed;
    }

pub given_up_without_wink : GivenUpWithoutWink
given_up_without_wink events ms is =
    let d = dial_after events in
    up-lacks events d.lead_ms d.make_ms d.now_ms d.since_ms d.wink d.waiting (time_of events + ms) (always-holds events) is
