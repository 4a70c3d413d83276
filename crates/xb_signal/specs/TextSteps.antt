-- How words are taken, one after the other.
use Rattle.std.specs.Prelude.{ℕ, ◌≡◌, ◌⊎◌, ◌+◌, List, [], ◌∷◌, ◌++◌, length, Ok, Err}
use Rattle.xb_sound.specs.declared.cadence.Cadence.{Cadence}
use Rattle.xb_signal.specs.declared.fault.KeysFault.{KeysFault}
use Rattle.xb_signal.specs.declared.fault.KeysFault.TheVariants as fault
use Rattle.xb_signal.specs.declared.fault.Place.{Place}
use Rattle.xb_signal.specs.declared.segment.Segment.{Segment}
use Rattle.xb_signal.specs.declared.setting.Setting.{Setting}
use Rattle.xb_signal.specs.Texts.{Said, after, next_place, segments_of_word, segments_of_words, words_from}

-- memory ran out, or this is the fault
abbrev pub IsFault : Said → KeysFault → Type 0
IsFault said f = (f ≡ fault.NoMemory) ⊎ (said ≡ Err f)

-- what sounds by a word was put after the rest
abbrev pub TakesWord : Place → Cadence → Setting → List ℕ → List Segment → List Segment → Type 0
TakesWord place cadence setting word old new =
    (segments : List Segment) × (segments_of_word cadence setting place word ≡ Ok segments) × (new ≡ old ++ segments)

abbrev pub IsFaultOfWord : Place → Cadence → Setting → List ℕ → KeysFault → Type 0
IsFaultOfWord place cadence setting word f = IsFault (segments_of_word cadence setting place word) f

-- a piece was taken, whatever pieces come after it
abbrev pub TakesPiece : Place → Cadence → Setting → List ℕ → List Segment → List Segment → Type 0
TakesPiece place cadence setting piece old new =
    (later : List (List ℕ))
    → after old (segments_of_words cadence setting (words_from place (piece ∷ later)))
    ≡ after new (segments_of_words cadence setting (words_from (next_place place piece) later))

-- a piece has a fault, whatever pieces come after it; or memory ran out
abbrev pub StopsBy : Place → Cadence → Setting → List ℕ → KeysFault → Type 0
StopsBy place cadence setting piece f =
    (f ≡ fault.NoMemory)
    ⊎ ((later : List (List ℕ)) → segments_of_words cadence setting (words_from place (piece ∷ later)) ≡ Err f)

-- how many bytes pieces have, and a blank after each
abbrev pub total : List (List ℕ) → ℕ
total [] = 0
total (piece ∷ more) = length piece + 1 + total more
