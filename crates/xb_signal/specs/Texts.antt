-- The words of a text, and what sounds by them.
use Rattle.std.specs.Prelude.{ℕ, ◌+◌, ◌==◌, List, [], ◌∷◌, ◌++◌, Bool, ◌||◌, if◌then◌else◌, length, Option, Some, None, Result, Ok, Err}
use Rattle.std.specs.List.{list_all}
use Rattle.xb_sound.specs.declared.cadence.Cadence.{Cadence}
use Rattle.xb_text.specs.Pieces.{pieces}
use Rattle.xb_signal.specs.declared.fault.KeysFault.{KeysFault}
use Rattle.xb_signal.specs.declared.fault.KeysFault.TheVariants as fault
use Rattle.xb_signal.specs.declared.fault.Place.{Place}
use Rattle.xb_signal.specs.declared.segment.Segment.{Segment}
use Rattle.xb_signal.specs.declared.setting.Setting.{Setting}
use Rattle.xb_signal.specs.Segments.{all_fit, silent}
use Rattle.xb_signal.specs.Words.{word_segments}

-- the place after a piece between blanks: one without bytes is no word
abbrev pub next_place : Place → List ℕ → Place
next_place place [] = record { word = place.word; byte = place.byte + 0 + 1 }
next_place place (b ∷ bytes) = record { word = place.word + 1; byte = place.byte + length (b ∷ bytes) + 1 }

abbrev pub and_word : Place → List ℕ → List (Place × List ℕ) → List (Place × List ℕ)
and_word place [] words = words
and_word place (b ∷ bytes) words = (place, b ∷ bytes) ∷ words

-- the words among pieces, each with its place
abbrev pub words_from : Place → List (List ℕ) → List (Place × List ℕ)
words_from place [] = []
words_from place (piece ∷ later) = and_word place piece (words_from (next_place place piece) later)

-- the words of a text, which stand apart by blanks; words and bytes are counted from 1
abbrev pub words_of : List ℕ → List (Place × List ℕ)
words_of text = words_from (record { word = 1; byte = 1 }) (pieces 32 text)

-- what sounds, or the first fault
abbrev pub Said : Type 0
Said = Result (List Segment) KeysFault

-- a word has to be one, and each of its samples has to have 16 bits, unless samples are cut
abbrev pub judged : Setting → Place → Option (List Segment) → Said
judged setting place None = Err (fault.NoWord place)
judged setting place (Some segments) =
    if setting.clip || all_fit setting segments then Ok segments else Err (fault.Loud place)

abbrev pub segments_of_word : Cadence → Setting → Place → List ℕ → Said
segments_of_word cadence setting place word = judged setting place (word_segments cadence word)

-- what sounds after other segments
abbrev pub after : List Segment → Said → Said
after earlier (Ok later) = Ok (earlier ++ later)
after earlier (Err f) = Err f

abbrev pub and_then : Said → Said → Said
and_then (Ok segments) later = after segments later
and_then (Err f) later = Err f

-- what sounds by words, one after the other, or the fault of the first that has one
unfoldable pub segments_of_words : Cadence → Setting → List (Place × List ℕ) → Said
segments_of_words cadence setting [] = Ok []
segments_of_words cadence setting ((place, word) ∷ more) =
    and_then (segments_of_word cadence setting place word) (segments_of_words cadence setting more)

abbrev pub is_blank : List ℕ → Bool
is_blank text = list_all (λ byte. byte == 32) text

-- the words of a text, after the silence before them
abbrev pub segments_of_text : Cadence → Setting → List ℕ → Said
segments_of_text cadence setting text =
    if is_blank text then Err fault.NoWords
    else after (silent cadence.lead_ms ∷ []) (segments_of_words cadence setting (words_of text))
