-- Start dial, row by row: what a sender knows of the far office's lead, and what becomes of the keyings that wait.
use Rattle.std.specs.Prelude.{ℕ, ◌+◌, ◌==◌, Bool, false, nat_le, ◌&&◌, List, [], ◌∷◌, ◌++◌, drop, fold, Option, Some, None, if◌then◌else◌}
use Rattle.xb_model.specs.declared.mark.Mark.{Mark}
use Rattle.xb_model.specs.declared.row.Contact.{Contact}
use Rattle.xb_model.specs.declared.row.Contact.TheVariants.{Make}
use Rattle.xb_trunk.specs.declared.start_dial.Fate.{Fate}
use Rattle.xb_trunk.specs.declared.start_dial.Fate.TheVariants.{Idle, Waits, Keyed, GivenUp}
use Rattle.xb_trunk.specs.declared.start_dial.TheConstants.{LEAST_WINK, MOST_WINK, AFTER_WINK, LONGEST_WAIT}

-- what comes: a row of the lead, or a row of the clock with the marks of the keying that it completes
pub data Event : Type 0 where
  lead : Contact → ℕ → Event
  clock : ℕ → List Mark → Event

-- how long the rows of the lead last, and the makes that they end with; how long those of the clock last; since when
-- the first keying waits, and when the first wink ended that began since then; the keyings that wait, in order
pub record Dial : Type 0 where
  pub lead_ms : ℕ
  pub make_ms : ℕ
  pub now_ms : ℕ
  pub since_ms : ℕ
  pub wink : Option ℕ
  pub waiting : List (List Mark)

abbrev pub no_dial : Dial
no_dial = record { lead_ms = 0; make_ms = 0; now_ms = 0; since_ms = 0; wink = None; waiting = [] }

-- a break now ends a wink that began while the first keying waits
abbrev pub is_winked : Dial → Bool
is_winked d = nat_le LEAST_WINK d.make_ms && (nat_le d.make_ms MOST_WINK && nat_le (d.since_ms + d.make_ms) d.lead_ms)

-- the first wink is kept
abbrev pub wink_with : Dial → Option ℕ → Option ℕ
wink_with d (Some ended) = Some ended
wink_with d None = if is_winked d then Some d.lead_ms else None

abbrev pub lead_by : Dial → Contact → ℕ → Dial
lead_by d Make ms = record {
  lead_ms = d.lead_ms + ms;
  make_ms = d.make_ms + ms;
  now_ms = d.now_ms;
  since_ms = d.since_ms;
  wink = d.wink;
  waiting = d.waiting;
}
lead_by d contact ms = record {
  lead_ms = d.lead_ms + ms;
  make_ms = 0;
  now_ms = d.now_ms;
  since_ms = d.since_ms;
  wink = wink_with d d.wink;
  waiting = d.waiting;
}

-- a row of no time says nothing
abbrev pub after_lead : Dial → Contact → ℕ → Dial
after_lead d contact ms = if ms == 0 then d else lead_by d contact ms

-- a wink ended long enough before a moment
abbrev pub is_ready : ℕ → Option ℕ → Bool
is_ready now None = false
is_ready now (Some ended) = nat_le (ended + AFTER_WINK) now

-- what becomes of the first keying that waits, at a moment of the clock
abbrev pub fate_of : List (List Mark) → Dial → ℕ → Fate
fate_of [] d now = Idle
fate_of (first ∷ rest) d now =
    if is_ready now d.wink then Keyed else if nat_le (d.since_ms + LONGEST_WAIT) now then GivenUp else Waits

abbrev pub fate_at : Dial → ℕ → Fate
fate_at d now = fate_of d.waiting d now

-- while the first keying waits on, its moment and its wink are kept; else the next one waits from now on
abbrev pub settled : Dial → ℕ → Fate → Dial
settled d now Waits = record {
  lead_ms = d.lead_ms;
  make_ms = d.make_ms;
  now_ms = now;
  since_ms = d.since_ms;
  wink = d.wink;
  waiting = d.waiting;
}
settled d now fate = record {
  lead_ms = d.lead_ms;
  make_ms = d.make_ms;
  now_ms = now;
  since_ms = now;
  wink = None;
  waiting = drop 1 d.waiting;
}

-- the marks of a row are a keying, where it has any
abbrev pub keyings_of : List Mark → List (List Mark)
keyings_of [] = []
keyings_of (mark ∷ marks) = (mark ∷ marks) ∷ []

abbrev pub with_keying : Dial → List Mark → Dial
with_keying d marks = record {
  lead_ms = d.lead_ms;
  make_ms = d.make_ms;
  now_ms = d.now_ms;
  since_ms = d.since_ms;
  wink = d.wink;
  waiting = d.waiting ++ keyings_of marks;
}

abbrev pub after_clock : Dial → ℕ → List Mark → Dial
after_clock d ms marks = with_keying (settled d (d.now_ms + ms) (fate_at d (d.now_ms + ms))) marks

abbrev pub after : Dial → Event → Dial
after d (lead contact ms) = after_lead d contact ms
after d (clock ms marks) = after_clock d ms marks

-- after these rows
abbrev pub dial_after : List Event → Dial
dial_after events = fold after no_dial events

-- the marks of the first one, if there is one
abbrev pub first_of : List (List Mark) → List Mark
first_of [] = []
first_of (first ∷ rest) = first

-- what is settled with the end of a row: nothing, or the first keying
abbrev pub marks_by : Fate → List (List Mark) → List Mark
marks_by Keyed waiting = first_of waiting
marks_by GivenUp waiting = first_of waiting
marks_by fate waiting = []
