-- The beginnings of a text that is written in parts.
use Rattle.std.proofs.Common.{◌≡◌, ◌∙◌, ℕ, suc, get_or, ◌+◌, ◌<◌, ◌≤◌, min, List, ◌∷◌, ◌++◌, length, take, drop, Option, sym, ap, subst, arith, ℤ}
use Rattle.std.proofs.lemmas.Grind.{flat_map-append}
use Rattle.std.proofs.lemmas.List.{take-append-drop, take-append-le, take_min}
use Rattle.std.proofs.KnownBytes.{Appends-trans}
use Rattle.std.proofs.Math.Seq.{drop-cons, take-append-add, take-length}
use Rattle.std.specs.Io.KnownBytes.{Appends}
use Rattle.xb_model.specs.declared.mark.Mark.{Mark}
use Rattle.xb_text.specs.Writing.{AppendsBeginning}
use Rattle.xb_sound.specs.declared.cadence.Cadence.{Cadence}
use Rattle.xb_sound.specs.Sounds.{mark_sound, sound_of}
use Rattle.xb_sound.specs.Wavs.{pcm_of, sample_bytes}

take-more : (n : ℕ) (a b : List ℕ) → take n a ≡ take (min n (length a)) (a ++ b)
take-more n a b =
    let within : min n (length a) ≤ length a = omega arith in
    sym (take_min n a) ∙ sym (take-append-le (min n (length a)) a b within)

-- the beginning of a part is one of the whole
pub beginning-more : (old new : Option (List ℕ)) (a b : List ℕ)
    → AppendsBeginning old new a → AppendsBeginning old new (a ++ b)
beginning-more old new a b begun =
    (min begun.0 (length a), subst (λ (bytes : List ℕ). Appends old new bytes) (take-more begun.0 a b) begun.1)

-- the beginning of a later part comes after the whole of the earlier one
pub beginning-after : (old mid new : Option (List ℕ)) (a b : List ℕ)
    → Appends old mid a → AppendsBeginning mid new b → AppendsBeginning old new (a ++ b)
beginning-after old mid new a b first begun = (
  length a + begun.0,
  subst (λ (bytes : List ℕ). Appends old new bytes) (sym (take-append-add a b begun.0))
      (Appends-trans old mid new a (take begun.0 b) first begun.1),
)

-- the whole is a beginning
pub whole-begins : (old new : Option (List ℕ)) (a : List ℕ) → Appends old new a → AppendsBeginning old new a
whole-begins old new a all =
    (length a, subst (λ (bytes : List ℕ). Appends old new bytes) (sym (take-length a)) all)

-- the sound of marks is that of the first ones, of the next, and of the rest
pub sound-parts : (cadence : Cadence) (marks : List Mark) (i : ℕ) (mark : Mark) → i < length marks
    → mark ≡ get_or marks i mark
    → pcm_of (sound_of cadence marks)
    ≡ pcm_of (sound_of cadence (take i marks))
    ++ (pcm_of (mark_sound cadence mark) ++ pcm_of (sound_of cadence (drop (suc i) marks)))
sound-parts cadence marks i mark within is =
    let one : Mark → List ℤ = λ m. mark_sound cadence m in
    let rest : drop i marks ≡ mark ∷ drop (suc i) marks =
    drop-cons marks i mark within ∙ ap (λ m. m ∷ drop (suc i) marks) (sym is) in
    let parts : marks ≡ take i marks ++ (mark ∷ drop (suc i) marks) =
    sym (take-append-drop i marks) ∙ ap (λ xs. take i marks ++ xs) rest in
    ap (λ xs. pcm_of (sound_of cadence xs)) parts
    ∙ ap pcm_of (flat_map-append one (take i marks) (mark ∷ drop (suc i) marks))
    ∙ flat_map-append sample_bytes (sound_of cadence (take i marks))
    (one mark ++ sound_of cadence (drop (suc i) marks))
    ∙ ap (λ xs. pcm_of (sound_of cadence (take i marks)) ++ xs)
    (flat_map-append sample_bytes (one mark) (sound_of cadence (drop (suc i) marks)))
