-- The times of day of entries and events, counted from one that is given.
use Rattle.std.specs.Prelude.{ℕ}
use Rattle.xb_clock.specs.Clocks.{Clock, IsClockSince, IsLateAt, IsLateSince}
use Rattle.xb_live.specs.declared.entry_text.EntryForm.{EntryForm}
use Rattle.xb_live.specs.declared.entry_text.EntryForm.TheVariants as form
use Rattle.xb_live.specs.TimedEntries.{TimedEntry}

-- a clock tells each time of day that a form asks for
abbrev pub IsClockOf : EntryForm → Clock → Type 0
IsClockOf form.Entries clock = Unit {0}
IsClockOf form.Marks clock = Unit {0}
IsClockOf (form.Objects since) clock = IsClockSince since clock
IsClockOf (form.MarkObjects since) clock = IsClockSince since clock
IsClockOf (form.Events since) clock = IsClockSince since clock

-- a time of an entry is past the last instant
abbrev pub IsLate : EntryForm → TimedEntry → Type 0
IsLate form.Entries told = ⊥
IsLate form.Marks told = ⊥
IsLate (form.Objects since) told = IsLateSince since told.began told.at
IsLate (form.MarkObjects since) told = IsLateSince since told.began told.at
IsLate (form.Events since) told = IsLateSince since told.began told.at

-- the time of an event, so many ms after the one that is given, is past the last instant
abbrev pub IsLateEvent : EntryForm → ℕ → Type 0
IsLateEvent form.Entries at = ⊥
IsLateEvent form.Marks at = ⊥
IsLateEvent (form.Objects since) at = ⊥
IsLateEvent (form.MarkObjects since) at = ⊥
IsLateEvent (form.Events since) at = IsLateAt since at

-- how entries are printed: their form, and the clock that tells their times
pub record Style : Type 0 where
  pub form : EntryForm
  pub clock : Clock

abbrev pub styled : EntryForm → Clock → Style
styled form clock = record { form = form; clock = clock }
