-- What stands over a keying.
use Rattle.std.specs.Prelude.{ℕ, List, [], ◌∷◌, ◌++◌, codes, decimal, Option, Some, None}
use Rattle.std.specs.List.{flat_map}
use Rattle.xb_measured.specs.declared.heard.Heard.{Heard}
use Rattle.xb_measured.specs.Seconds.{seconds_text}
use Rattle.xb_measured.specs.DoubtLines.{began_ms}
use Rattle.xb_measured.specs.Keyings.{digit_of}
use Rattle.xb_shown.specs.declared.heading.Title.{Title}
use Rattle.xb_shown.specs.declared.heading.Title.TheVariants as title

-- what keys are, which begin at so many ms
abbrev pub entry_words : ℕ → ℕ → List ℕ
entry_words number ms = codes "entry " ++ (decimal number ++ (codes " at " ++ (seconds_text ms ++ codes " s")))

abbrev pub loose_words : ℕ → List ℕ
loose_words ms = codes "key at " ++ (seconds_text ms ++ codes " s")

abbrev pub title_words : Title → ℕ → List ℕ
title_words (title.Entry number) ms = entry_words number ms
title_words title.Loose ms = loose_words ms

-- the digits of keys, one after the other
abbrev pub digit_text : Option ℕ → List ℕ
digit_text None = []
digit_text (Some digit) = decimal digit

abbrev pub number_words : List Heard → List ℕ
number_words keys = flat_map (λ key. digit_text (digit_of key)) keys

-- what was heard
abbrev pub keyed_words : Title → List Heard → List ℕ
keyed_words (title.Entry number) keys = number_words keys
keyed_words title.Loose keys = codes "in no keying"

abbrev pub heading_words : Title → List Heard → List (List ℕ)
heading_words title keys = title_words title (began_ms keys) ∷ keyed_words title keys ∷ []
