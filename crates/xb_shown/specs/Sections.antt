-- A page in HTML with a section for each keying.
use Rattle.std.specs.Prelude.{ℕ, zero, suc, Bool, true, false, List, [], ◌∷◌, ◌++◌, codes, Option}
use Rattle.xb_measured.specs.declared.heard.Heard.{Heard}
use Rattle.xb_measured.specs.Lines.{text_lines}
use Rattle.xb_measured.specs.DoubtLines.{began_ms, doubts_text}
use Rattle.xb_svg.specs.Drawings.{Looks, drawing_text}
use Rattle.xb_svg.specs.Escaped.{escaped}
use Rattle.xb_shown.specs.declared.heading.Title.{Title}
use Rattle.xb_shown.specs.declared.heading.Title.TheVariants as title
use Rattle.xb_shown.specs.Headings.{keyed_words, title_words}
use Rattle.xb_shown.specs.Keyings.{part_words}
use Rattle.xb_shown.specs.Pictures.{Part}

unfoldable pub start_text : List ℕ
start_text = codes "<!DOCTYPE html>\n<html lang=\"en\">\n<head>\n<meta charset=\"utf-8\"/>\n<meta name=\"viewport\" content=\"width=device-width\"/>\n<title>What was keyed</title>\n<style>\n:root{color-scheme:light dark;font-family:Helvetica,Arial,sans-serif}\nbody{max-width:1180px;margin:2em auto;padding:0 1em}\nsvg{max-width:100%;height:auto}\npre{overflow-x:auto}\n.told{color:#c8102e;white-space:pre-wrap}\n@media(prefers-color-scheme:dark){svg{filter:invert(.9) hue-rotate(180deg)}.told{color:#ff8a98}}\n@media print{section{break-inside:avoid}pre{white-space:pre-wrap;font-size:8pt}}\n</style>\n</head>\n<body>\n<h1>What was keyed</h1>\n"

-- what keys are, and what was heard
abbrev pub opening_text : Title → List Heard → List ℕ
opening_text title keys =
    codes "<section>\n<h2>" ++ title_words title (began_ms keys) ++ codes ": " ++ keyed_words title keys
    ++ codes "</h2>\n"

-- what is told of them
abbrev pub told_words : Title → List Heard → List ℕ
told_words (title.Entry number) keys = doubts_text number keys
told_words title.Loose keys = []

abbrev pub told_text : List ℕ → List ℕ
told_text told = codes "</pre>\n<pre class=\"told\">" ++ escaped told ++ codes "</pre>\n</section>\n"

-- lines of keys, and what is told of them
abbrev pub lines_text : List ℕ → List ℕ → List ℕ
lines_text lines told = codes "<pre>" ++ (escaped lines ++ told_text told)

abbrev pub figures_text : Title → Option Heard → List Heard → List ℕ
figures_text title before keys = lines_text (text_lines before keys) (told_words title keys)

-- a section: a heading, the picture by these looks, the lines of the keys, and what is told of them
abbrev pub section_text : Looks → Part → List ℕ
section_text looks part =
    opening_text part.title part.keys
    ++ (drawing_text looks (part_words part.title part.before part.keys)
    ++ figures_text part.title part.before part.keys)

abbrev pub end_text : List ℕ
end_text = codes "</body>\n</html>\n"

-- the looks of one picture after the other
abbrev pub first_with : Looks → (ℕ → Looks) → ℕ → Looks
first_with looks styles zero = looks
first_with looks styles (suc n) = styles n

abbrev pub sections_text : (ℕ → Looks) → List Part → List ℕ
sections_text styles [] = []
sections_text styles (part ∷ parts) = section_text (styles 0) part ++ sections_text (λ n. styles (suc n)) parts

-- what still stands before the next section, where the page was begun or not
abbrev pub unbegun_text : Bool → List ℕ
unbegun_text true = []
unbegun_text false = start_text

-- what is still to be written of a page that was begun or not, and of later parts
abbrev pub page_rest : Bool → List Part → (ℕ → Looks) → List ℕ
page_rest begun later styles = unbegun_text begun ++ (sections_text styles later ++ end_text)

-- the page of parts
abbrev pub page_text : List Part → (ℕ → Looks) → List ℕ
page_text parts styles = page_rest false parts styles
