-- What a receiver hears of a trunk.
use Rattle.std.proofs.Common.{◌≡◌, ℕ, ◌+◌, ◌*◌, ◌-◌, ◌≤◌, List, [], ◌∷◌, ◌++◌, length, refl, sym, ap, ◌∙◌, arith, ℤ}
use Rattle.std.specs.List.{flat_map}
use Rattle.std.proofs.lemmas.List.Concat.{flat_map-append}
use Rattle.xb_model.specs.declared.mark.Mark.{Mark}
use Rattle.xb_sound.specs.declared.cadence.Cadence.{Cadence}
use Rattle.xb_sound.specs.Cadences.{IsSetApart}
use Rattle.xb_sound.specs.HeardKeys.{AreKeyed, keys_with, pairs_of, pairs_of_mark}
use Rattle.xb_sound.specs.Receiver.{heard, heard_after}
use Rattle.xb_sound.specs.Sounds.{sound_of}
use Rattle.xb_sound.proofs.Silences.{heard_after-silence}
use Rattle.xb_sound.proofs.HeardMarks.{keys_are_heard as marks_are_heard, marks-heard}
use Rattle.xb_trunk.specs.Sounded.{Step, whole_sound}
use Rattle.xb_trunk.specs.Laws.{KeysAreHeard, marks_of}
use Rattle.xb_trunk.proofs.Spaced.{spaced, whole-spaced}

-- what is heard, whatever the silence before it
abbrev HeardAs : List ℤ → List (List ℕ) → Type 0
HeardAs xs later = (silent : ℕ) → 80 ≤ silent → heard_after silent xs ≡ later

pub keyed-split : (xs ys : List Mark) → AreKeyed (xs ++ ys) → AreKeyed xs × AreKeyed ys
keyed-split [] ys keyed = (tt, keyed)
keyed-split (x ∷ xs) ys keyed = let both = keyed-split xs ys keyed.1 in ((keyed.0, both.0), both.1)

calls_are_heard : (cadence : Cadence) → IsSetApart cadence → (n : ℕ) (steps : List Step) → AreKeyed (marks_of steps)
    → HeardAs (spaced cadence n steps) (pairs_of (marks_of steps))
unfolding heard_after
calls_are_heard cadence apart n [] keyed silent enough = refl
calls_are_heard cadence apart n (step ∷ steps) keyed silent enough =
    let both = keyed-split step.marks (marks_of steps) keyed in
    let rest = spaced cadence ((n - step.ms * 8) + length (sound_of cadence step.marks)) steps in
    heard_after-silence (step.ms * 8 - n) silent (sound_of cadence step.marks ++ rest)
    ∙ marks-heard cadence apart step.marks both.0 (silent + (step.ms * 8 - n)) (omega arith) rest (pairs_of (marks_of steps))
    (calls_are_heard cadence apart ((n - step.ms * 8) + length (sound_of cadence step.marks)) steps both.1)
    ∙ sym (flat_map-append pairs_of_mark step.marks (marks_of steps))

pub keys_are_heard : KeysAreHeard
keys_are_heard cadence steps apart keyed =
    let alone = marks_are_heard cadence (marks_of steps) apart keyed in
    let pairs : heard (whole_sound cadence [] steps) ≡ pairs_of (marks_of steps) =
    ap (λ (samples : List ℤ). heard_after 80 samples) (whole-spaced cadence [] steps)
    ∙ calls_are_heard cadence apart 0 steps keyed 80 (omega arith) in
    record {
      pairs = pairs;
      keys = ap (λ (all : List (List ℕ)). flat_map keys_with all) (pairs ∙ sym alone.pairs) ∙ alone.keys;
    }
