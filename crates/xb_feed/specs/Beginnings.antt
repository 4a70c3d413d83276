-- How much of a recording is read to tell its form.
use Rattle.std.specs.Prelude.{◌≡◌, ◌⊎◌, ◌≤◌, ℕ, List, None, Some, true, length, take}
use Rattle.xb_recording.specs.declared.format.Format.{Format}
use Rattle.xb_recording.specs.Beginnings.{form_told, tells_nothing_yet, told_within, why_untold}
use Rattle.xb_feed.specs.declared.beginning.TheConstants.{MOST_BEGINNING_BYTES}
use Rattle.xb_feed.specs.declared.fault.RecordingFault.{RecordingFault}
use Rattle.xb_feed.specs.declared.fault.RecordingFault.TheVariants as faults

-- a recording tells a form: a function of its first 131,072 bytes alone says so, and it is that of the whole
pub record TellsForm (text : List ℕ) (format : Format) : Type 0 where
  pub beginning : told_within MOST_BEGINNING_BYTES text ≡ Some format
  pub whole : form_told text ≡ Some format

-- so many bytes of it tell nothing
abbrev pub IsLongUntold : List ℕ → Type 0
IsLongUntold text =
    (MOST_BEGINNING_BYTES ≤ length text) × (tells_nothing_yet (take MOST_BEGINNING_BYTES text) ≡ true)

-- by that function it tells none: the whole has none, or so many bytes tell nothing
pub record TellsNone (text : List ℕ) : Type 0 where
  pub beginning : told_within MOST_BEGINNING_BYTES text ≡ None
  pub whole : (form_told text ≡ None) ⊎ IsLongUntold text

-- why the form of a recording is not told: it tells none, and its beginning says why; else a read failed, or memory
-- ran out
abbrev pub IsUntold : List ℕ → RecordingFault → Type 0
IsUntold text (faults.Beginning reason) = (reason ≡ why_untold text) × TellsNone text
IsUntold text (faults.Read unread) = Unit {0}
IsUntold text faults.NoMemory = Unit {0}
IsUntold text fault = ⊥
