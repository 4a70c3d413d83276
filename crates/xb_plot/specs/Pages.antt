-- A page of plots, of which each has the text lines of its digits below it.
use Rattle.std.specs.Prelude.{ℕ, List, ◌++◌, codes}
use Rattle.xb_svg.specs.Escaped.{escaped}

abbrev pub front_text : List ℕ
front_text =
    codes "<!DOCTYPE html>\n<html lang=\"en\">\n<head>\n<meta charset=\"utf-8\"/>\n<meta name=\"viewport\" content=\"width=device-width\"/>\n<title>Dials on the bench</title>\n"

abbrev pub style_text : List ℕ
style_text =
    codes "<style>\n:root{color-scheme:light dark;font-family:Helvetica,Arial,sans-serif}\nbody{max-width:1328px;margin:2em auto;padding:0 1em}\nsvg{max-width:100%;height:auto;margin:1em 0;break-inside:avoid}\npre{overflow-x:auto;font-size:.9em;line-height:1.4}\n@media(prefers-color-scheme:dark){svg{filter:invert(.9) hue-rotate(180deg)}}\n</style>\n"

-- the beginning, with words below the title
abbrev pub page_start_text : List ℕ → List ℕ
page_start_text words =
    front_text ++ style_text ++ codes "</head>\n<body>\n<h1>Dials on the bench</h1>\n<p>" ++ escaped words
    ++ codes "</p>\n"

unfoldable pub table_text : List ℕ → List ℕ
table_text lines = codes "<pre>\n" ++ escaped lines ++ codes "</pre>\n</section>\n"

-- the part of a line: its plot, and the text lines of its digits
abbrev pub part_text : List ℕ → List ℕ → List ℕ
part_text plot lines = codes "<section>\n" ++ plot ++ table_text lines

abbrev pub page_end_text : List ℕ
page_end_text = codes "</body>\n</html>\n"
