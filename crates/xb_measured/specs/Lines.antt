-- The line of a key.
use Rattle.std.specs.Prelude.{ℕ, List, [], ◌∷◌, ◌++◌, codes, decimal, Option, Some, None}
use Rattle.xb_measured.specs.declared.heard.Heard.{Heard}
use Rattle.xb_measured.specs.declared.heard.Onsets.{Onsets}
use Rattle.xb_measured.specs.declared.figures.Figures.{Figures}
use Rattle.xb_measured.specs.declared.levels.TheConstants.{ZERO_DBM0}
use Rattle.xb_measured.specs.Figures.{figures_of}
use Rattle.xb_measured.specs.Levels.{tenths_text}
use Rattle.xb_measured.specs.Meanings.{name_text}
use Rattle.xb_measured.specs.Verdicts.{misses, verdict_text}

-- when a key began, by the last one
abbrev pub gap_text : Option ℕ → List ℕ
gap_text None = codes "first"
gap_text (Some ms) = codes "after " ++ (decimal ms ++ codes " ms")

-- how much later the higher tone began
abbrev pub skew_text : Option Onsets → List ℕ
skew_text None = codes "unknown"
skew_text (Some onsets) = tenths_text onsets.low onsets.high ++ codes " ms"

-- that, and how long its holes are
abbrev pub shape_text : Figures → List ℕ
shape_text figures =
    codes "skew " ++ (skew_text figures.onsets ++ (codes ", hole " ++ (decimal figures.hole_ms ++ codes " ms")))

-- its name, its times, the frequency and the level of each of its tones, and what it misses
abbrev pub text_line : Figures → List ℕ
text_line figures =
    name_text figures.meaning ++ (codes " at " ++ (decimal figures.start_ms ++ (codes " ms for "
    ++ (decimal figures.length_ms ++ (codes " ms, "
    ++ (decimal figures.low_hz ++ (codes " Hz " ++ (tenths_text figures.low ZERO_DBM0 ++ (codes " dBm0, "
    ++ (decimal figures.high_hz ++ (codes " Hz " ++ (tenths_text figures.high ZERO_DBM0 ++ (codes " dBm0, twist "
    ++ (tenths_text figures.high figures.low ++ (codes " dB, " ++ (shape_text figures ++ (codes ", " ++ (gap_text figures.gap_ms ++ (codes ": "
    ++ (verdict_text (misses figures) ++ codes "\n"))))))))))))))))))))

-- a line for each key, after one that came before them
unfoldable pub text_lines : Option Heard → List Heard → List ℕ
text_lines before [] = []
text_lines before (key ∷ keys) = text_line (figures_of before key) ++ text_lines (Some key) keys
