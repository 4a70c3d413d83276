-- What a word of a signal says.
use Rattle.std.specs.Prelude.{ℕ, List, [], ◌∷◌, Bool, ◌&&◌, Option, Some, None, bytes_eq, codes, if◌then◌else◌, length, map, nat_le, option_and_then, option_map}
use Rattle.std.specs.List.{flat_map, list_all}
use Rattle.xb_contact.specs.Numbers.{is_digit, number_of}
use Rattle.xb_model.specs.declared.key.Key.TheVariants.{Digit}
use Rattle.xb_model.specs.Digits.{digit_of_ascii}
use Rattle.xb_signal.specs.declared.key_name.Name.{Name}
use Rattle.xb_signal.specs.declared.key_name.Name.TheVariants.{Key}
use Rattle.xb_signal.specs.declared.segment.Segment.{Segment}
use Rattle.xb_signal.specs.declared.segment.Sound.TheVariants.{Written}
use Rattle.xb_signal.specs.declared.segment.TheConstants.{MOST_TONES}
use Rattle.xb_signal.specs.declared.word.TheConstants.{MOST_HZ, MOST_MS}
use Rattle.xb_signal.specs.Names.{name_ms, name_of, pair_of}
use Rattle.xb_signal.specs.Segments.{pair_segment, silent}
use Rattle.xb_sound.specs.declared.cadence.Cadence.{Cadence}
use Rattle.xb_text.specs.Pieces.{cut_at, pieces}

-- the number that digits write, from 1 to the most
abbrev pub number_within : ℕ → List ℕ → Option ℕ
number_within most text =
    option_and_then (λ n. if nat_le 1 n && nat_le n most then Some n else None) (number_of text)

-- all of them, where each is there
abbrev pub all_given : List (Option ℕ) → Option (List ℕ)
all_given [] = Some []
all_given (x ∷ xs) = option_and_then (λ n. option_map (λ more. n ∷ more) (all_given xs)) x

-- the frequencies between `+`, up to six
abbrev pub tones_of : List ℕ → Option (List ℕ)
tones_of text =
    if nat_le (length (pieces 43 text)) MOST_TONES then all_given (map (number_within MOST_HZ) (pieces 43 text))
    else None

-- before the colon it says what sounds, and after it for how long
abbrev pub segment_with : List ℕ → ℕ → Option Segment
segment_with what ms =
    if bytes_eq what (codes "silence") then Some (silent ms)
    else option_map (λ tones. record { sound = Written tones; ms = ms }) (tones_of what)

abbrev pub segment_of : List ℕ → Option Segment
segment_of word =
    option_and_then (λ parts. option_and_then (λ ms. segment_with parts.0 ms) (number_within MOST_MS parts.1))
    (cut_at 58 word)

abbrev pub is_digits : List ℕ → Bool
is_digits word = list_all is_digit word

-- a key is its tone, and the silence after it
abbrev pub key_segments : Cadence → Name → List Segment
key_segments cadence name = pair_segment (pair_of name) (name_ms cadence name) ∷ silent cadence.gap_ms ∷ []

-- the key of a digit
abbrev pub digit_segments : Cadence → ℕ → List Segment
digit_segments cadence byte = by (digit_of_ascii byte)
  where
    by : Option ℕ → List Segment
    by None = []
    by (Some digit) = key_segments cadence (Key (Digit digit))

-- digits, the name of a key, or what sounds for a time
abbrev pub word_segments : Cadence → List ℕ → Option (List Segment)
word_segments cadence word =
    if is_digits word then Some (flat_map (digit_segments cadence) word) else other (name_of word)
  where
    other : Option Name → Option (List Segment)
    other (Some name) = Some (key_segments cadence name)
    other None = option_map (λ segment. segment ∷ []) (segment_of word)
