-- Where entries sound.
use Rattle.std.specs.Prelude.{ℕ, ◌≡◌, ◌≤◌, ◌+◌, ◌*◌, ◌-◌, List, [], ◌∷◌, ◌++◌, None, drop, take}
use Rattle.std.specs.List.{AllByRecursion, flat_map}
use Rattle.xb_model.specs.declared.key.Key.TheVariants.{Kp}
use Rattle.xb_model.specs.declared.order.Order.TheVariants.{Key}
use Rattle.xb_model.specs.MfPairs.{mf_pair}
use Rattle.xb_sound.specs.declared.cadence.Cadence.{Cadence}
use Rattle.xb_sound.specs.Cadences.{IsSetApart}
use Rattle.xb_sound.specs.HeardKeys.{AreKeyed, IsHeard}
use Rattle.xb_sound.specs.Sounds.{silence, tone_sound}
use Rattle.xb_tone.specs.declared.entry.PlacedEntry.{PlacedEntry}
use Rattle.xb_tone.specs.Sounds.{entry_sound, sound_at, up_to}
use Rattle.xb_tone.specs.Cuts.{lines_of_cuts}
use Rattle.xb_tone.specs.Entries.{marks_of}
use Rattle.xb_tone.specs.Times.{AreInOrder, early_after}

-- where the later entries leave KP so many of its ms, it begins the lead after the time of its entry, sample by sample
abbrev pub KeyingsBegin : Type 0
KeyingsBegin = (cadence : Cadence) (earlier later : List PlacedEntry) (entry : PlacedEntry)
    (trunk : ℕ) (digits : List ℕ) (ms : ℕ)
    → entry.order ≡ Key trunk digits → ms ≤ cadence.kp_ms
    → early_after (entry.at_ms + cadence.lead_ms + ms) later ≡ None
    → take (ms * 8) (drop ((entry.at_ms + cadence.lead_ms) * 8) (sound_at cadence (earlier ++ (entry ∷ later))))
    ≡ tone_sound (mf_pair Kp) ms

-- nothing else sounds: up to the first entry it is silent; between an entry and the next one sounds just the former,
-- cut or with silence after it; and from the time of the last entry on sounds just that, to its end
pub record EachSounds : Type 0 where
  pub first : (cadence : Cadence) (entry : PlacedEntry) (later : List PlacedEntry) → early_after entry.at_ms later ≡ None
      → take (entry.at_ms * 8) (sound_at cadence (entry ∷ later)) ≡ silence entry.at_ms
  pub between : (cadence : Cadence) (earlier later : List PlacedEntry) (entry next : PlacedEntry)
      → early_after entry.at_ms (next ∷ later) ≡ None
      → take ((next.at_ms - entry.at_ms) * 8)
      (drop (entry.at_ms * 8) (sound_at cadence (earlier ++ (entry ∷ next ∷ later))))
      ≡ up_to ((next.at_ms - entry.at_ms) * 8) (entry_sound cadence entry)
  pub last : (cadence : Cadence) (earlier : List PlacedEntry) (entry : PlacedEntry)
      → drop (entry.at_ms * 8) (sound_at cadence (earlier ++ (entry ∷ []))) ≡ entry_sound cadence entry

-- where nothing is cut, a receiver hears the keys of all entries, in order, and nothing else
abbrev pub AllAreHeard : Type 0
AllAreHeard = (program : List ℕ) (cadence : Cadence) (entries : List PlacedEntry) → IsSetApart cadence
    → AllByRecursion (λ entry. AreKeyed (marks_of entry)) entries → AreInOrder entries
    → lines_of_cuts program cadence entries ≡ []
    → IsHeard (sound_at cadence entries) (flat_map marks_of entries)
