-- What a pair of tones stands for.
use Rattle.std.specs.Prelude.{ℕ, ◌==◌, if◌then◌else◌, List, codes, Option, Some, None}
use Rattle.xb_model.specs.declared.key.Key.{Key}
use Rattle.xb_model.specs.declared.key.Tone.{Tone as Pair}
use Rattle.xb_model.specs.MfPairs.{key_of_pair}
use Rattle.xb_model.specs.Page.{key_text}
use Rattle.xb_measured.specs.declared.meaning.Meaning.{Meaning}
use Rattle.xb_measured.specs.declared.meaning.Meaning.TheVariants as meaning

-- a pair of no key of the office has 1,700 Hz, and its lower tone tells which it is
abbrev pub meaning_by : ℕ → Option Key → Meaning
meaning_by low (Some key) = meaning.Key key
meaning_by low None =
    if low == 900 then meaning.StPrime else (if low == 1300 then meaning.Kp2OrStSecond else meaning.StThird)

unfoldable pub meaning_of : Pair → Meaning
meaning_of p = meaning_by p.low (key_of_pair p)

-- KP2 begins a keying and ST'' ends one, by the same pair
abbrev pub name_text : Meaning → List ℕ
name_text (meaning.Key key) = key_text key
name_text meaning.StPrime = codes "ST'"
name_text meaning.Kp2OrStSecond = codes "KP2/ST''"
name_text meaning.StThird = codes "ST'''"
