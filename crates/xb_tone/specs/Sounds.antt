-- The sound of entries, each at its time, 8 samples in a ms.
use Rattle.std.specs.Prelude.{ℕ, ◌*◌, ◌-◌, List, [], ◌∷◌, ◌++◌, Bool, if◌then◌else◌, length, Option, None, Some, replicate, take, ℤ, pos}
use Rattle.xb_sound.specs.declared.cadence.Cadence.{Cadence}
use Rattle.xb_sound.specs.Sounds.{sound_of}
use Rattle.xb_sound.specs.Wavs.{header_of, pcm_of}
use Rattle.xb_tone.specs.declared.entry.PlacedEntry.{PlacedEntry}
use Rattle.xb_tone.specs.Entries.{marks_of}

-- a sound up to a sample: cut there, or with silence up to it
abbrev pub up_to : ℕ → List ℤ → List ℤ
up_to n sound = take n sound ++ replicate (n - length sound) (pos 0)

-- the sound of an entry by itself
abbrev pub entry_sound : Cadence → PlacedEntry → List ℤ
entry_sound cadence entry = sound_of cadence (marks_of entry)

-- at the time of an entry the sound so far ends, and its own begins
abbrev pub with_entry : Cadence → List ℤ → PlacedEntry → List ℤ
with_entry cadence so_far entry = up_to (entry.at_ms * 8) so_far ++ entry_sound cadence entry

-- the sound of entries that come after a sound
unfoldable pub sound_after : Cadence → List ℤ → List PlacedEntry → List ℤ
sound_after cadence so_far [] = so_far
sound_after cadence so_far (entry ∷ entries) = sound_after cadence (with_entry cadence so_far entry) entries

-- the sound of entries, from the beginning of time
abbrev pub sound_at : Cadence → List PlacedEntry → List ℤ
sound_at cadence entries = sound_after cadence [] entries

-- what of the sound of an entry sounds before the next one, if there is one
abbrev pub sound_before : Cadence → PlacedEntry → Option PlacedEntry → List ℤ
sound_before cadence entry None = entry_sound cadence entry
sound_before cadence entry (Some next) = up_to ((next.at_ms - entry.at_ms) * 8) (entry_sound cadence entry)

-- before the samples stands the head of a WAV file, or nothing
abbrev pub head_before : Bool → Cadence → List PlacedEntry → List ℕ
head_before raw cadence entries = if raw then [] else header_of (2 * length (sound_at cadence entries))

-- the samples alone, or the WAV file of them
abbrev pub bytes_of : Bool → Cadence → List PlacedEntry → List ℕ
bytes_of raw cadence entries = head_before raw cadence entries ++ pcm_of (sound_at cadence entries)
