-- How long the sound of entries is.
use Rattle.std.proofs.Common.{◌≡◌, ◌∙◌, ℕ, suc, ◌+◌, ◌*◌, ◌-◌, ◌<◌, ◌≤◌, ◌^◌, min, List, [], ◌∷◌, length, length-append, Some, None, sym, ap, arith, refl, ℤ}
use Rattle.std.specs.List.{slice_get}
use Rattle.std.proofs.lemmas.Option.{none-some, same_Some, slice_get-get_or}
use Rattle.xb_sound.specs.declared.cadence.Cadence.{Cadence}
use Rattle.xb_tone.specs.declared.entry.PlacedEntry.{PlacedEntry}
use Rattle.xb_tone.specs.Sounds.{entry_sound, sound_after, sound_at, up_to, with_entry}
use Rattle.xb_tone.proofs.Follows.{up_to-length}

-- it ends with the sound of the last entry
pub length-after : (cadence : Cadence) (so_far : List ℤ) (entries : List PlacedEntry) (last : PlacedEntry)
    → slice_get entries (length entries - 1) ≡ Some last
    → length (sound_after cadence so_far entries) ≡ last.at_ms * 8 + length (entry_sound cadence last)
unfolding sound_after
length-after cadence so_far [] last is = absurd (none-some last is)
length-after cadence so_far (entry ∷ []) last is =
    let same : entry ≡ last = same_Some entry last is in
    length-append (up_to (entry.at_ms * 8) so_far) (entry_sound cadence entry)
    ∙ ap (λ n. n + length (entry_sound cadence entry)) (up_to-length (entry.at_ms * 8) so_far)
    ∙ ap (λ (e : PlacedEntry). e.at_ms * 8 + length (entry_sound cadence e)) same
length-after cadence so_far (entry ∷ next ∷ entries) last is =
    let more : length (entry ∷ next ∷ entries) - 1 ≡ suc (length (next ∷ entries) - 1) = omega arith in
    length-after cadence (with_entry cadence so_far entry) (next ∷ entries) last
    (sym (ap (λ n. slice_get (entry ∷ next ∷ entries) n) more) ∙ is)

-- of no entries there is no sound
pub length-none : (cadence : Cadence) (entries : List PlacedEntry) → slice_get entries (length entries - 1) ≡ None
    → 0 ≡ length (sound_at cadence entries)
unfolding sound_after
length-none cadence [] none = refl
length-none cadence (entry ∷ entries) none =
    let same : length (entry ∷ entries) - 1 ≡ length entries = omega arith in
    let within : length entries < length (entry ∷ entries) = omega arith in
    absurd (none-some _ (sym none ∙ slice_get-get_or (entry ∷ entries) (length (entry ∷ entries) - 1) entry (omega (arith, same, within))))

pub sum-exact : (at lasts sum own all : ℕ) → sum ≡ min (at + lasts) (2 ^ 64 - 1) → lasts * 8 ≡ own → all ≡ at * 8 + own
    → sum < 2 ^ 64 - 1 → sum * 8 ≡ all
sum-exact at lasts sum own all is lasts_is all_is few = omega (arith, is, lasts_is, all_is, few)

pub sum-many : (at lasts sum own all : ℕ) → sum ≡ min (at + lasts) (2 ^ 64 - 1) → lasts * 8 ≡ own → all ≡ at * 8 + own
    → sum ≡ 2 ^ 64 - 1 → 2 ^ 64 - 1 ≤ all
sum-many at lasts sum own all is lasts_is all_is many = omega (arith, is, lasts_is, all_is, many)
