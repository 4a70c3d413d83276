-- What is heard of entries that do not cut one another.
use Rattle.std.proofs.Common.{◌≡◌, ◌∙◌, ℕ, ◌+◌, ◌*◌, ◌-◌, ◌<◌, ◌≤◌, Bool, true, false, List, [], ◌∷◌, ◌++◌, length, length-append, replicate, None, sym, ap, append_assoc, append-nil, arith, refl, ℤ, pos}
use Rattle.std.specs.List.{AllByRecursion, flat_map}
use Rattle.std.proofs.lemmas.Bool.{cond-false, cond-true, ltb-false}
use Rattle.std.proofs.lemmas.Grind.{flat_map-append}
use Rattle.std.proofs.lemmas.List.{length-replicate, take_all}
use Rattle.xb_model.specs.declared.mark.Mark.{Mark}
use Rattle.xb_sound.specs.declared.cadence.Cadence.{Cadence}
use Rattle.xb_sound.specs.Cadences.{IsSetApart}
use Rattle.xb_sound.specs.HeardKeys.{AreKeyed, keys_with, pairs_of, pairs_of_mark}
use Rattle.xb_sound.specs.Receiver.{heard, heard_after}
use Rattle.xb_sound.specs.Sounds.{silence}
use Rattle.xb_sound.proofs.HeardMarks.{keys_are_heard, marks-heard}
use Rattle.xb_sound.proofs.Silences.{heard_after-silence}
use Rattle.xb_tone.specs.declared.entry.PlacedEntry.{PlacedEntry}
use Rattle.xb_tone.specs.Cuts.{cut_line, cuts, lines_of_cuts}
use Rattle.xb_tone.specs.Entries.{marks_of}
use Rattle.xb_tone.specs.Laws.{AllAreHeard}
use Rattle.xb_tone.specs.Sounds.{entry_sound, sound_after, sound_at, up_to}
use Rattle.xb_tone.specs.Times.{early_after}
use Rattle.xb_tone.proofs.Follows.{order-step, silent_first}

-- an entry that cuts nothing comes after the end of the one before it
not_cut : (program : List ℕ) (cadence : Cadence) (entry next : PlacedEntry) (later : List PlacedEntry)
    → lines_of_cuts program cadence (entry ∷ next ∷ later) ≡ [] → entry.at_ms ≤ next.at_ms
    → (entry.at_ms * 8 + length (entry_sound cadence entry) ≤ next.at_ms * 8)
    × (lines_of_cuts program cadence (next ∷ later) ≡ [])
not_cut program cadence entry next later none order = by (cuts cadence entry next) refl
  where
    by : (is : Bool) → cuts cadence entry next ≡ is
        → (entry.at_ms * 8 + length (entry_sound cadence entry) ≤ next.at_ms * 8)
        × (lines_of_cuts program cadence (next ∷ later) ≡ [])
    by true is =
        let rest : List ℕ = lines_of_cuts program cadence (next ∷ later) in
        let line : List ℕ = cut_line program entry next in
        let told : line ++ rest ≡ [] = ap (λ (xs : List ℕ). xs ++ rest) (sym (cond-true _ _ _ is)) ∙ none in
        let none_left : length (line ++ rest) ≡ 0 = ap length told in
        let more : length line ≡ length program + length (cut_line [] entry next) = length-append program (cut_line [] entry next) in
        let some : 0 < length (cut_line [] entry next) = omega arith in
        absurd (omega (arith, none_left, length-append line rest, more, some))
    by false is =
        let rest : List ℕ = lines_of_cuts program cadence (next ∷ later) in (
          omega (arith, order, ltb-false ((next.at_ms - entry.at_ms) * 8) (length (entry_sound cadence entry)) is),
          ap (λ (xs : List ℕ). xs ++ rest) (sym (cond-false _ _ _ is)) ∙ none,
        )

-- what sounds after an entry, and is heard of it
record IsHeardAfter (cadence : Cadence) (done : List ℤ) (entry : PlacedEntry) (later : List PlacedEntry) : Type 0 where
  pub rest : List ℤ
  pub same : sound_after cadence (done ++ entry_sound cadence entry) later ≡ done ++ (entry_sound cadence entry ++ rest)
  pub hears : (z : ℕ) → 80 ≤ z → heard_after z rest ≡ pairs_of (flat_map marks_of later)

entries-heard : (program : List ℕ) (cadence : Cadence) → IsSetApart cadence → (done : List ℤ) (entry : PlacedEntry)
    (later : List PlacedEntry) → length done ≡ entry.at_ms * 8 → early_after entry.at_ms later ≡ None
    → lines_of_cuts program cadence (entry ∷ later) ≡ [] → AllByRecursion (λ e. AreKeyed (marks_of e)) later
    → IsHeardAfter cadence done entry later
unfolding heard_after sound_after
entries-heard program cadence apart done entry [] at order none keyed = record {
  rest = [];
  same = ap (λ (xs : List ℤ). done ++ xs) (sym (append-nil (entry_sound cadence entry)));
  hears = λ z enough. refl;
}
entries-heard program cadence apart done entry (next ∷ later) at order none keyed =
    let step = order-step entry.at_ms next later order in
    let whole = not_cut program cadence entry next later none step.0 in
    let own = entry_sound cadence entry in
    let n : ℕ = next.at_ms * 8 in
    let long = length-append done own in
    let past : length (done ++ own) ≤ n = omega (arith, long, at, whole.0) in
    let k : ℕ = n - length (done ++ own) in
    let zeros : List ℤ = replicate k (pos 0) in
    let first : up_to n (done ++ own) ≡ (done ++ own) ++ zeros =
    ap (λ (xs : List ℤ). xs ++ zeros) (take_all n (done ++ own) past) in
    let size : length ((done ++ own) ++ zeros) ≡ n =
    omega (arith, length-append (done ++ own) zeros, length-replicate k (pos 0), past) in
    let more = entries-heard program cadence apart ((done ++ own) ++ zeros) next later size step.1 whole.1 keyed.1 in
    let its = entry_sound cadence next in
    record {
      rest = zeros ++ (its ++ more.rest);
      same =
          ap (λ (xs : List ℤ). sound_after cadence (xs ++ its) later) first
          ∙ more.same
          ∙ append_assoc (done ++ own) zeros (its ++ more.rest)
          ∙ append_assoc done own (zeros ++ (its ++ more.rest));
      hears = λ z enough.
          heard_after-silence k z (its ++ more.rest)
          ∙ marks-heard cadence apart (marks_of next) keyed.0 (z + k) (omega (arith, enough)) more.rest
          (pairs_of (flat_map marks_of later)) more.hears
          ∙ sym (flat_map-append pairs_of_mark (marks_of next) (flat_map marks_of later));
    }

pairs-heard : (program : List ℕ) (cadence : Cadence) (entries : List PlacedEntry) → IsSetApart cadence
    → AllByRecursion (λ e. AreKeyed (marks_of e)) entries → early_after 0 entries ≡ None
    → lines_of_cuts program cadence entries ≡ [] → heard (sound_at cadence entries) ≡ pairs_of (flat_map marks_of entries)
unfolding heard_after sound_after
pairs-heard program cadence [] apart keyed order none = refl
pairs-heard program cadence (entry ∷ later) apart keyed order none =
    let step = order-step 0 entry later order in
    let own = entry_sound cadence entry in
    let silent = silence entry.at_ms in
    let more = entries-heard program cadence apart silent entry later (length-replicate (entry.at_ms * 8) (pos 0)) step.1
    none keyed.1 in
    ap heard (silent_first cadence entry later ∙ more.same)
    ∙ heard_after-silence (entry.at_ms * 8) 80 (own ++ more.rest)
    ∙ marks-heard cadence apart (marks_of entry) keyed.0 (80 + entry.at_ms * 8) (omega arith) more.rest
    (pairs_of (flat_map marks_of later)) more.hears
    ∙ sym (flat_map-append pairs_of_mark (marks_of entry) (flat_map marks_of later))

both-keyed : (some more : List Mark) → AreKeyed some → AreKeyed more → AreKeyed (some ++ more)
both-keyed [] more first second = second
both-keyed (mark ∷ some) more first second = (first.0, both-keyed some more first.1 second)

all-keyed : (entries : List PlacedEntry) → AllByRecursion (λ e. AreKeyed (marks_of e)) entries
    → AreKeyed (flat_map marks_of entries)
all-keyed [] keyed = tt
all-keyed (entry ∷ entries) keyed =
    both-keyed (marks_of entry) (flat_map marks_of entries) keyed.0 (all-keyed entries keyed.1)

pub all_are_heard : AllAreHeard
all_are_heard program cadence entries apart keyed order none =
    let marks = flat_map marks_of entries in
    let pairs = pairs-heard program cadence entries apart keyed order none in
    let alone = keys_are_heard cadence marks apart (all-keyed entries keyed) in
    record {
      pairs = pairs;
      keys =
          ap (λ (all : List (List ℕ)). flat_map keys_with all) (pairs ∙ sym alone.pairs)
          ∙ alone.keys;
    }
