-- What rows that end are heard as: the sounds of their marks, each whole, with silences between them.
use Rattle.std.proofs.Common.{◌≡◌, ℕ, zero, suc, ◌+◌, ◌*◌, ◌-◌, List, [], ◌∷◌, ◌++◌, length, length-append, drop, take, map, refl, sym, ap, ◌∙◌, append_assoc, append-nil, arith, replicate, ℤ, pos}
use Rattle.std.proofs.lemmas.List.{length-drop, drop_all}
use mathlib.Core.List.{IsPrefix}
use Rattle.xb_model.specs.declared.key.Key.TheVariants.{Digit, Kp, St}
use Rattle.xb_model.specs.declared.mark.Mark.{Mark}
use Rattle.xb_model.specs.Keyings.{keying, tone}
use Rattle.xb_model.specs.MfPairs.{mf_pair}
use Rattle.xb_sound.specs.declared.cadence.Cadence.{Cadence}
use Rattle.xb_sound.specs.Sounds.{silence, sound_of, tone_sound}
use Rattle.xb_trunk.specs.Sounded.{Step, fitted, left_by, sounded, waiting_after, whole_sound}
use Rattle.xb_trunk.specs.Laws.{CallsSoundWhole, IsFree}
use Rattle.xb_trunk.proofs.Times.{waiting-append, whole-append}

abbrev pub zeros : ℕ → List ℤ
zeros n = replicate n (pos 0)

-- after n samples that wait: silence up to the end of the row, where these end before it, and then the sound of its marks
abbrev pub spaced : Cadence → ℕ → List Step → List ℤ
spaced cadence n [] = []
spaced cadence n (step ∷ steps) =
    zeros (step.ms * 8 - n)
    ++ (sound_of cadence step.marks ++ spaced cadence ((n - step.ms * 8) + length (sound_of cadence step.marks)) steps)

-- what is left of samples sounds before what comes after them
fitted-rest : (n : ℕ) (samples later : List ℤ)
    → take n samples ++ (zeros (n - length samples) ++ (drop n samples ++ later)) ≡ samples ++ (zeros (n - length samples) ++ later)
fitted-rest zero samples later =
    let none : 0 - length samples ≡ 0 = omega arith in
    ap (λ (k : ℕ). zeros k ++ (samples ++ later)) none ∙ sym (ap (λ (k : ℕ). samples ++ (zeros k ++ later)) none)
fitted-rest (suc n) [] later = refl
fitted-rest (suc n) (x ∷ samples) later =
    let less : suc n - suc (length samples) ≡ n - length samples = omega arith in
    ap (λ (k : ℕ). x ∷ (take n samples ++ (zeros k ++ (drop n samples ++ later)))) less
    ∙ ap (λ (xs : List ℤ). x ∷ xs) (fitted-rest n samples later)
    ∙ sym (ap (λ (k : ℕ). x ∷ (samples ++ (zeros k ++ later))) less)

pub whole-spaced : (cadence : Cadence) (waiting : List ℤ) (steps : List Step)
    → whole_sound cadence waiting steps ≡ waiting ++ spaced cadence (length waiting) steps
whole-spaced cadence waiting [] = sym (append-nil waiting)
whole-spaced cadence waiting (step ∷ steps) =
    let n : ℕ = step.ms * 8 in
    let sound = sound_of cadence step.marks in
    let left = left_by cadence waiting step in
    let many : length left ≡ (length waiting - n) + length sound =
    length-append (drop n waiting) sound ∙ ap (λ (k : ℕ). k + length sound) (length-drop n waiting) in
    let rest = spaced cadence ((length waiting - n) + length sound) steps in
    append_assoc (fitted n waiting) (sounded cadence left steps) (waiting_after cadence left steps)
    ∙ ap (λ (xs : List ℤ). fitted n waiting ++ xs)
    (whole-spaced cadence left steps ∙ ap (λ (k : ℕ). left ++ spaced cadence k steps) many ∙ append_assoc (drop n waiting) sound rest)
    ∙ append_assoc (take n waiting) (zeros (n - length waiting)) (drop n waiting ++ (sound ++ rest))
    ∙ fitted-rest n waiting (sound ++ rest)

-- what comes first of what comes next
prefix-more : (first part rest next all : List ℤ) → part ++ rest ≡ next → IsPrefix (first ++ next) all → IsPrefix (first ++ part) all
prefix-more first part rest next all is (more, joined) = (
  rest ++ more,
  append_assoc first part (rest ++ more)
      ∙ ap (λ (xs : List ℤ). first ++ xs) (sym (append_assoc part rest more) ∙ ap (λ (xs : List ℤ). xs ++ more) is)
      ∙ sym (append_assoc first next more) ∙ joined,
)

module _ (cadence : Cadence) (steps : List Step) (step : Step) (later : List Step) where
  next : (waiting : List ℤ) → IsPrefix waiting (whole_sound cadence waiting later)
  next waiting = (spaced cadence (length waiting) later, sym (whole-spaced cadence waiting later))

  at_once : IsFree cadence steps step
      → IsPrefix (sounded cadence [] (steps ++ step ∷ []) ++ sound_of cadence step.marks) (whole_sound cadence [] (steps ++ step ∷ later))
  at_once free =
      let earlier = waiting_after cadence [] steps in
      let sound = sound_of cadence step.marks in
      let alone : waiting_after cadence [] (steps ++ step ∷ []) ≡ sound =
      waiting-append cadence [] steps (step ∷ []) ∙ ap (λ (xs : List ℤ). xs ++ sound) (drop_all (step.ms * 8) earlier free) in
      let rest = spaced cadence (length sound) later in (
        rest,
        append_assoc (sounded cadence [] (steps ++ step ∷ [])) sound rest
            ∙ ap (λ (xs : List ℤ). sounded cadence [] (steps ++ step ∷ []) ++ xs)
            (sym (whole-spaced cadence sound later) ∙ ap (λ (xs : List ℤ). whole_sound cadence xs later) (sym alone))
            ∙ sym (whole-append cadence [] (steps ++ step ∷ []) later)
            ∙ ap (λ (rows : List Step). whole_sound cadence [] rows) (append_assoc steps (step ∷ []) later),
      )

  kp : (trunk : ℕ) (digits : List ℕ) → IsFree cadence steps step → step.marks ≡ keying trunk digits
      → IsPrefix (sounded cadence [] (steps ++ step ∷ []) ++ (silence cadence.lead_ms ++ tone_sound (mf_pair Kp) cadence.kp_ms)) (whole_sound cadence [] (steps ++ step ∷ later))
  kp trunk digits free is =
      let lead = silence cadence.lead_ms in
      let tone_of_kp = tone_sound (mf_pair Kp) cadence.kp_ms in
      let gap = silence cadence.gap_ms in
      let keys = sound_of cadence (map (λ d. tone (Digit d)) digits ++ tone St ∷ []) in
      let parts : (lead ++ tone_of_kp) ++ (gap ++ keys) ≡ sound_of cadence step.marks =
      append_assoc lead tone_of_kp (gap ++ keys) ∙ ap (λ (xs : List ℤ). lead ++ xs) (sym (append_assoc tone_of_kp gap keys))
      ∙ ap (λ (marks : List Mark). sound_of cadence marks) (sym is) in
      prefix-more (sounded cadence [] (steps ++ step ∷ [])) (lead ++ tone_of_kp) (gap ++ keys) (sound_of cadence step.marks) _ parts (at_once free)

pub calls_sound_whole : CallsSoundWhole
calls_sound_whole cadence steps step later = record {
  next = next cadence steps step later;
  at_once = at_once cadence steps step later;
  kp = kp cadence steps step later;
}
