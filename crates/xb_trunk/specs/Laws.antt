-- What is heard of a trunk, in the words of the field.
use Rattle.std.specs.Prelude.{◌≡◌, ◌≤◌, ℕ, ◌*◌, List, [], ◌∷◌, ◌++◌, length, sum_by, ℤ}
use Rattle.std.specs.List.{flat_map}
use mathlib.Core.List.{IsPrefix}
use Rattle.xb_model.specs.declared.key.Key.TheVariants.{Kp}
use Rattle.xb_model.specs.declared.mark.Mark.{Mark}
use Rattle.xb_model.specs.Keyings.{keying}
use Rattle.xb_model.specs.MfPairs.{mf_pair}
use Rattle.xb_sound.specs.declared.cadence.Cadence.{Cadence}
use Rattle.xb_sound.specs.Cadences.{IsSetApart}
use Rattle.xb_sound.specs.HeardKeys.{AreKeyed, IsHeard}
use Rattle.xb_sound.specs.Sounds.{silence, sound_of, tone_sound}
use Rattle.xb_trunk.specs.Sounded.{Step, sounded, waiting_after, whole_sound}

-- how many ms rows last in all
abbrev pub ms_of : List Step → ℕ
ms_of steps = sum_by (λ (step : Step). step.ms) steps

-- the marks that rows complete, in order
abbrev pub marks_of : List Step → List Mark
marks_of steps = flat_map (λ (step : Step). step.marks) steps

-- rows of t ms write 8 t samples
abbrev pub TimeIsKept : Type 0
TimeIsKept = (cadence : Cadence) (waiting : List ℤ) (steps : List Step)
    → length (sounded cadence waiting steps) ≡ ms_of steps * 8

-- rows write the same, whatever rows come later, and whether they end there or go on
pub record IsKept (cadence : Cadence) (waiting : List ℤ) (steps later : List Step) : Type 0 where
  pub go_on : IsPrefix (sounded cadence waiting steps) (sounded cadence waiting (steps ++ later))
  pub end : IsPrefix (sounded cadence waiting steps) (whole_sound cadence waiting (steps ++ later))

abbrev pub NothingIsTakenBack : Type 0
NothingIsTakenBack = (cadence : Cadence) (waiting : List ℤ) (steps later : List Step)
    → IsKept cadence waiting steps later

-- nothing but the sound of its own marks waits with the end of a row
abbrev pub IsFree : Cadence → List Step → Step → Type 0
IsFree cadence steps step = length (waiting_after cadence [] steps) ≤ step.ms * 8

-- what waits is heard next, whole. Where nothing else waits, that is the sound of the row's marks, from the row's end
-- on; so of a keying the lead comes next, and then KP
pub record SoundWhole (cadence : Cadence) (steps : List Step) (step : Step) (later : List Step) : Type 0 where
  pub next : (waiting : List ℤ) → IsPrefix waiting (whole_sound cadence waiting later)
  pub at_once : IsFree cadence steps step
      → IsPrefix (sounded cadence [] (steps ++ step ∷ []) ++ sound_of cadence step.marks)
      (whole_sound cadence [] (steps ++ step ∷ later))
  pub kp : (trunk : ℕ) (digits : List ℕ) → IsFree cadence steps step → step.marks ≡ keying trunk digits
      → IsPrefix (sounded cadence [] (steps ++ step ∷ []) ++ (silence cadence.lead_ms
      ++ tone_sound (mf_pair Kp) cadence.kp_ms)) (whole_sound cadence [] (steps ++ step ∷ later))

abbrev pub CallsSoundWhole : Type 0
CallsSoundWhole = (cadence : Cadence) (steps : List Step) (step : Step) (later : List Step)
    → SoundWhole cadence steps step later

-- by a cadence that sets its tones apart a receiver hears the keys of the marks that rows complete, in order, and
-- nothing else, however the rows are cut
abbrev pub KeysAreHeard : Type 0
KeysAreHeard = (cadence : Cadence) (steps : List Step) → IsSetApart cadence → AreKeyed (marks_of steps)
    → IsHeard (whole_sound cadence [] steps) (marks_of steps)
