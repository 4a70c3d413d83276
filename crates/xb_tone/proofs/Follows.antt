-- The sound of entries, entry by entry.
use Rattle.std.proofs.Common.{◌≡◌, ◌∙◌, ℕ, ◌+◌, ◌*◌, ◌-◌, ◌<◌, ◌≤◌, ◌⊎◌, Bool, true, false, List, [], ◌∷◌, ◌++◌, length, length-append, replicate, take, Option, None, sym, ap, subst, append_assoc, append-nil, arith, refl, ℤ, pos, inl, inr, min}
use Rattle.std.specs.List.{slice_get}
use Rattle.std.specs.Prelude.{nat_lt}
use Rattle.std.specs.Io.KnownBytes.{Appends}
use Rattle.std.proofs.KnownBytes.{Appends-trans}
use Rattle.std.proofs.lemmas.Bool.{cases_lt, cond-false, cond-true, ltb-false}
use Rattle.std.proofs.lemmas.Option.{none-some}
use Rattle.std.proofs.lemmas.Grind.{flat_map-append}
use Rattle.std.proofs.lemmas.List.{length-replicate, length-take, take_all}
use Rattle.std.proofs.Math.Seq.{take-append-add, take-nil}
use Rattle.xb_text.specs.Writing.{AppendsBeginning}
use Rattle.xb_sound.specs.declared.cadence.Cadence.{Cadence}
use Rattle.xb_sound.specs.Sounds.{silence}
use Rattle.xb_sound.specs.Wavs.{pcm_of, sample_bytes}
use Rattle.xb_sound.proofs.Beginnings.{beginning-after, beginning-more}
use Rattle.xb_tone.specs.declared.entry.PlacedEntry.{PlacedEntry}
use Rattle.xb_tone.specs.Sounds.{entry_sound, sound_after, sound_at, sound_before, up_to, with_entry}
use Rattle.xb_tone.specs.Times.{AreInOrder, early_after, first_at}

pub up_to-length : (n : ℕ) (sound : List ℤ) → length (up_to n sound) ≡ n
up_to-length n sound =
    let both = length-append (take n sound) (replicate (n - length sound) (pos 0)) in
    let first = length-take n sound in
    let second = length-replicate (n - length sound) (pos 0) in
    omega (arith, both, first, second)

-- what was there is kept
pub up_to-more : (m n : ℕ) (done sound : List ℤ) → m ≡ length done + n → up_to m (done ++ sound) ≡ done ++ up_to n sound
up_to-more m n done sound is =
    let long = length-append done sound in
    let zeros : m - length (done ++ sound) ≡ n - length sound = omega (arith, long, is) in
    ap (λ k. take k (done ++ sound) ++ replicate (m - length (done ++ sound)) (pos 0)) is
    ∙ ap (λ k. take (length done + n) (done ++ sound) ++ replicate k (pos 0)) zeros
    ∙ ap (λ xs. xs ++ replicate (n - length sound) (pos 0)) (take-append-add done sound n)
    ∙ append_assoc done (take n sound) (replicate (n - length sound) (pos 0))

-- an entry is not before the one before it, nor are the later ones
pub order-step : (at : ℕ) (entry : PlacedEntry) (entries : List PlacedEntry) → early_after at (entry ∷ entries) ≡ None
    → (at ≤ entry.at_ms) × (early_after entry.at_ms entries ≡ None)
order-step at entry entries none = by (nat_lt entry.at_ms at) refl
  where
    by : (early : Bool) → nat_lt entry.at_ms at ≡ early → (at ≤ entry.at_ms) × (early_after entry.at_ms entries ≡ None)
    by true is = absurd (none-some entry.text_line (sym none ∙ cond-true _ _ _ is))
    by false is = (ltb-false entry.at_ms at is, sym (cond-false _ _ _ is) ∙ none)

-- what has sounded before later entries stays
pub kept : (cadence : Cadence) (at : ℕ) (done sound : List ℤ) (entries : List PlacedEntry) → early_after at entries ≡ None
    → length done ≤ at * 8 → (rest : List ℤ) × (sound_after cadence (done ++ sound) entries ≡ done ++ rest)
unfolding sound_after
kept cadence at done sound [] order short = (sound, refl)
kept cadence at done sound (entry ∷ entries) order short =
    let step = order-step at entry entries order in
    let n : ℕ = entry.at_ms * 8 - length done in
    let size : entry.at_ms * 8 ≡ length done + n = omega (arith, step.0, short) in
    let own : List ℤ = entry_sound cadence entry in
    let goes : with_entry cadence (done ++ sound) entry ≡ done ++ (up_to n sound ++ own) =
    ap (λ (xs : List ℤ). xs ++ own) (up_to-more (entry.at_ms * 8) n done sound size) ∙ append_assoc done (up_to n sound) own in
    let later = kept cadence entry.at_ms done (up_to n sound ++ own) entries step.1 (omega (arith, step.0, short)) in
    (later.0, ap (λ (xs : List ℤ). sound_after cadence xs entries) goes ∙ later.1)

-- what has sounded ends at the time of the first entry that is left
abbrev pub IsAt : List ℤ → List PlacedEntry → Type 0
IsAt done [] = Unit {0}
IsAt done (entry ∷ later) = (length done ≡ entry.at_ms * 8) × (early_after entry.at_ms later ≡ None)

-- and these sound after it
abbrev pub goes_on : Cadence → List ℤ → List PlacedEntry → List ℤ
goes_on cadence done [] = done
goes_on cadence done (entry ∷ later) = sound_after cadence (done ++ entry_sound cadence entry) later

abbrev pub next_sound : Cadence → PlacedEntry → List PlacedEntry → List ℤ
next_sound cadence entry later = sound_before cadence entry (slice_get later 0)

between : (done : List ℤ) (entry next : PlacedEntry) → length done ≡ entry.at_ms * 8 → entry.at_ms ≤ next.at_ms
    → next.at_ms * 8 ≡ length done + (next.at_ms - entry.at_ms) * 8
between done entry next at later = omega (arith, at, later)

goes-next : (cadence : Cadence) (done : List ℤ) (entry : PlacedEntry) (later : List PlacedEntry) → IsAt done (entry ∷ later)
    → goes_on cadence done (entry ∷ later) ≡ goes_on cadence (done ++ next_sound cadence entry later) later
unfolding sound_after
goes-next cadence done entry [] at = refl
goes-next cadence done entry (next ∷ later) at =
    let step = order-step entry.at_ms next later at.1 in
    ap (λ (xs : List ℤ). sound_after cadence (xs ++ entry_sound cadence next) later)
    (up_to-more (next.at_ms * 8) ((next.at_ms - entry.at_ms) * 8) done (entry_sound cadence entry)
    (between done entry next at.0 step.0))

at-next : (cadence : Cadence) (done : List ℤ) (entry : PlacedEntry) (later : List PlacedEntry) → IsAt done (entry ∷ later)
    → IsAt (done ++ next_sound cadence entry later) later
at-next cadence done entry [] at = tt
at-next cadence done entry (next ∷ later) at =
    let step = order-step entry.at_ms next later at.1 in
    let n : ℕ = (next.at_ms - entry.at_ms) * 8 in
    let own = entry_sound cadence entry in (
      length-append done (up_to n own) ∙ ap (λ k. length done + k) (up_to-length n own)
          ∙ sym (between done entry next at.0 step.0),
      step.1,
    )

goes-kept : (cadence : Cadence) (done : List ℤ) (left : List PlacedEntry) → IsAt done left
    → (rest : List ℤ) × (goes_on cadence done left ≡ done ++ rest)
goes-kept cadence done [] at = ([], sym (append-nil done))
goes-kept cadence done (entry ∷ later) at =
    let short : length done ≤ entry.at_ms * 8 = omega (arith, at.0) in
    kept cadence entry.at_ms done (entry_sound cadence entry) later at.1 short

-- what was written, and what is left to be
pub record IsSoFar (cadence : Cadence) (entries left : List PlacedEntry) (start out : Option (List ℕ)) : Type 0 where
  pub done : List ℤ
  pub written : Appends start out (pcm_of done)
  pub at : IsAt done left
  pub whole : sound_at cadence entries ≡ goes_on cadence done left

both : (a b : List ℤ) → pcm_of (a ++ b) ≡ pcm_of a ++ pcm_of b
both a b = flat_map-append sample_bytes a b

pub so_far-next : (cadence : Cadence) (entries : List PlacedEntry) (entry : PlacedEntry) (later : List PlacedEntry)
    (start mid new : Option (List ℕ)) → IsSoFar cadence entries (entry ∷ later) start mid
    → Appends mid new (pcm_of (next_sound cadence entry later)) → IsSoFar cadence entries later start new
so_far-next cadence entries entry later start mid new so more = record {
  done = so.done ++ next_sound cadence entry later;
  written = subst (λ (bytes : List ℕ). Appends start new bytes) (sym (both so.done (next_sound cadence entry later)))
      (Appends-trans start mid new (pcm_of so.done) (pcm_of (next_sound cadence entry later)) so.written more);
  at = at-next cadence so.done entry later so.at;
  whole = so.whole ∙ goes-next cadence so.done entry later so.at;
}

pub so_far-part : (cadence : Cadence) (entries : List PlacedEntry) (entry : PlacedEntry) (later : List PlacedEntry)
    (start mid new : Option (List ℕ)) → IsSoFar cadence entries (entry ∷ later) start mid
    → AppendsBeginning mid new (pcm_of (next_sound cadence entry later))
    → AppendsBeginning start new (pcm_of (sound_at cadence entries))
so_far-part cadence entries entry later start mid new so begun =
    let own = next_sound cadence entry later in
    let rest = goes-kept cadence (so.done ++ own) later (at-next cadence so.done entry later so.at) in
    let whole : pcm_of (sound_at cadence entries) ≡ (pcm_of so.done ++ pcm_of own) ++ pcm_of rest.0 =
    ap pcm_of (so.whole ∙ goes-next cadence so.done entry later so.at ∙ rest.1)
    ∙ both (so.done ++ own) rest.0 ∙ ap (λ (bytes : List ℕ). bytes ++ pcm_of rest.0) (both so.done own) in
    subst (λ (bytes : List ℕ). AppendsBeginning start new bytes) (sym whole)
    (beginning-more start new (pcm_of so.done ++ pcm_of own) (pcm_of rest.0)
    (beginning-after start mid new (pcm_of so.done) (pcm_of own) so.written begun))

pub so_far-end : (cadence : Cadence) (entries : List PlacedEntry) (start out : Option (List ℕ))
    → IsSoFar cadence entries [] start out → Appends start out (pcm_of (sound_at cadence entries))
so_far-end cadence entries start out so =
    subst (λ (sound : List ℤ). Appends start out (pcm_of sound)) (sym so.whole) so.written

-- up to the first entry it is silent
pub silent_first : (cadence : Cadence) (entry : PlacedEntry) (later : List PlacedEntry)
    → sound_at cadence (entry ∷ later) ≡ goes_on cadence (silence entry.at_ms) (entry ∷ later)
unfolding sound_after
silent_first cadence entry later =
    let n : ℕ = entry.at_ms * 8 in
    let none : n - 0 ≡ n = omega arith in
    ap (λ (xs : List ℤ). sound_after cadence ((xs ++ replicate (n - 0) (pos 0)) ++ entry_sound cadence entry) later)
    (take-nil n)
    ∙ ap (λ k. sound_after cadence (replicate k (pos 0) ++ entry_sound cadence entry) later) none

pub so_far-start : (cadence : Cadence) (entries : List PlacedEntry) (start out : Option (List ℕ)) → AreInOrder entries
    → Appends start out (pcm_of (silence (first_at entries))) → IsSoFar cadence entries entries start out
unfolding sound_after
so_far-start cadence [] start out order written = record { done = []; written = written; at = tt; whole = refl }
so_far-start cadence (entry ∷ later) start out order written = record {
  done = silence entry.at_ms;
  written = written;
  at = (length-replicate (entry.at_ms * 8) (pos 0), (order-step 0 entry later order).1);
  whole = silent_first cadence entry later;
}

pub start-part : (cadence : Cadence) (entries : List PlacedEntry) (start new : Option (List ℕ)) → AreInOrder entries
    → AppendsBeginning start new (pcm_of (silence (first_at entries)))
    → AppendsBeginning start new (pcm_of (sound_at cadence entries))
unfolding sound_after
start-part cadence [] start new order begun = begun
start-part cadence (entry ∷ later) start new order begun =
    let silent = silence entry.at_ms in
    let rest = goes-kept cadence silent (entry ∷ later)
    (length-replicate (entry.at_ms * 8) (pos 0), (order-step 0 entry later order).1) in
    let whole : pcm_of (sound_at cadence (entry ∷ later)) ≡ pcm_of silent ++ pcm_of rest.0 =
    ap pcm_of (silent_first cadence entry later ∙ rest.1) ∙ both silent rest.0 in
    subst (λ (bytes : List ℕ). AppendsBeginning start new bytes) (sym whole)
    (beginning-more start new (pcm_of silent) (pcm_of rest.0) begun)

-- a sound up to a ms is the first of its ms, and then silence
pub up_to-parts : (sound : List ℤ) (lasts ms first : ℕ) → lasts * 8 ≡ length sound → first ≡ min ms lasts
    → up_to (ms * 8) sound ≡ take (first * 8) sound ++ silence (ms - first)
up_to-parts sound lasts ms first is small =
    let zeros : ms * 8 - length sound ≡ (ms - first) * 8 = omega (arith, is, small) in
    ap (λ n. take (ms * 8) sound ++ replicate n (pos 0)) zeros
    ∙ ap (λ (xs : List ℤ). xs ++ silence (ms - first)) (by (cases_lt ms lasts))
  where
    by : (ms < lasts) ⊎ (lasts ≤ ms) → take (ms * 8) sound ≡ take (first * 8) sound
    by (inl short) = let same : ms ≡ first = omega (arith, short, small) in ap (λ n. take (n * 8) sound) same
    by (inr long) =
        let past : length sound ≤ ms * 8 = omega (arith, is, long) in
        let last : length sound ≤ first * 8 = omega (arith, is, long, small) in
        take_all (ms * 8) sound past ∙ sym (take_all (first * 8) sound last)

pub up_to-bytes : (sound : List ℤ) (lasts ms first : ℕ) → lasts * 8 ≡ length sound → first ≡ min ms lasts
    → pcm_of (up_to (ms * 8) sound) ≡ pcm_of (take (first * 8) sound) ++ pcm_of (silence (ms - first))
up_to-bytes sound lasts ms first is small =
    ap pcm_of (up_to-parts sound lasts ms first is small) ∙ both (take (first * 8) sound) (silence (ms - first))
