-- What is heard of samples, by the pairs that their windows see, and where none sounds.
use Rattle.std.proofs.Common.{◌≡◌, ◌∙◌, List, [], ◌∷◌, ◌++◌, map, fold, length, ap, refl, ℤ, Option, Some, None, append-nil}
use Rattle.std.proofs.lemmas.List.{map-append}
use Rattle.xb_model.specs.declared.key.Tone.{Tone as Pair}
use Rattle.xb_ear.specs.declared.sight.Sight.{Sight}
use Rattle.xb_ear.specs.declared.hearing.Heard.{Heard}
use Rattle.xb_ear.specs.declared.hearing.Hearing.{Hearing}
use Rattle.xb_ear.specs.Ears.{heard, hearing_after, sights}
use Rattle.xb_ear.specs.Hearings.{hearer, listed, silent, sounds}
use Rattle.xb_ear.specs.HeardKeys.{pairs_in}
use Rattle.xb_ear.specs.Receivers.{keys_of_sound}
use Rattle.xb_ear.specs.LongRuns.{label, one}
use Rattle.xb_ear.proofs.HeardKeys.{heard-pairs, labels-are}
use Rattle.xb_ear.proofs.Runs.{Gives}
use Rattle.xb_ear.proofs.Segments.{between, sees}
use Rattle.xb_ear.proofs.Steps.{Known, after_all, gives_all, known, known-next, listed-one, pair_heard, whole}

-- what is known after windows
known-after : (h : Hearing) (js : List (Option Sight))
    → known (fold hearer.next h js) ≡ after_all (known h) (map label js)
known-after h [] = refl
known-after h (j ∷ js) =
    known-after (hearer.next h j) js ∙ ap (λ (k : Known). after_all k (map label js)) (known-next h j)

no-key : (key : Option Heard) → label (sounds key) ≡ None → key ≡ None
no-key None none = refl
no-key (Some key) none = absurd (cc)

-- what sounds after samples, by pairs alone
sounds-after : (samples : List ℤ) → label (sounds (hearing_after samples).sounding)
    ≡ (after_all (known silent) (between (sees samples) 0 (length samples))).sounding
sounds-after samples =
    ap (λ (k : Known). k.sounding)
    (known-after silent (sights samples) ∙ ap (λ xs. after_all (known silent) xs) (labels-are samples))

-- all that is heard, by pairs alone
pub sound-pairs : (samples : List ℤ)
    → pairs_in (keys_of_sound samples) ≡ whole (known silent) (between (sees samples) 0 (length samples))
sound-pairs samples =
    let sounding : Option Heard = (hearing_after samples).sounding in
    map-append pair_heard (heard samples) (listed sounding)
    ∙ ap (λ (ps : List Pair). ps ++ map pair_heard (listed sounding)) (heard-pairs samples)
    ∙ ap (λ (ps : List Pair). gives_all (known silent) (between (sees samples) 0 (length samples)) ++ ps)
    (listed-one sounding ∙ ap (λ (s : Option Pair). one s) (sounds-after samples))

-- where no key sounds at the end all have ended
keys-whole : (samples : List ℤ) → (hearing_after samples).sounding ≡ None → keys_of_sound samples ≡ heard samples
keys-whole samples quiet =
    ap (λ (key : Option Heard). heard samples ++ listed key) quiet ∙ append-nil (heard samples)

none-given : (keys : List Heard) → pairs_in keys ≡ [] → keys ≡ []
none-given [] none = refl
none-given (key ∷ keys) none = absurd (cc)

-- where no pair sounds nothing is given
pub nothing-sounds : (samples : List ℤ) → gives_all (known silent) (between (sees samples) 0 (length samples)) ≡ []
    → (after_all (known silent) (between (sees samples) 0 (length samples))).sounding ≡ None → keys_of_sound samples ≡ []
nothing-sounds samples given sounds =
    let none : heard samples ≡ [] = none-given (heard samples) (heard-pairs samples ∙ given) in
    let quiet : (hearing_after samples).sounding ≡ None =
    no-key (hearing_after samples).sounding (sounds-after samples ∙ sounds) in
    keys-whole samples quiet ∙ none

-- where all windows are silent
pub nothing-heard : (samples : List ℤ)
    → Gives (known silent) (between (sees samples) 0 (length samples)) [] None → keys_of_sound samples ≡ []
nothing-heard samples gives = nothing-sounds samples gives.given gives.arrived.sounds
