-- A page of HTML: its head, a list of lines, a section for each line, and its end.
use Rattle.std.specs.Prelude.{ℕ, List, [], ◌∷◌, ◌++◌, codes}
use Rattle.std.specs.List.{flat_map}
use Rattle.xb_model.specs.declared.limits.Limits.{Limits}
use Rattle.xb_model.specs.Page.{four_digits}
use Rattle.xb_heard.specs.Attempts.{AttemptOfRuns}
use Rattle.xb_report.specs.ReportTexts.{limits_text}
use Rattle.xb_report.specs.Rows.{rows_from}

-- what stands before the style sheet
unfoldable pub front_text : List ℕ
front_text = codes "<!DOCTYPE html>\n<html lang=\"en\">\n<head>\n<meta charset=\"utf-8\"/>\n<meta name=\"viewport\" content=\"width=device-width\"/>\n<title>What the register heard</title>\n"

-- the style sheet: a long list scrolls by itself; on a narrow screen a section does, so that its table and its picture
-- stay as large as they are; in a dark page the picture is dark too, its colours kept
unfoldable pub style_text : List ℕ
style_text = codes "<style>\n:root{color-scheme:light dark;font-family:Helvetica,Arial,sans-serif}\nbody{max-width:1304px;margin:2em auto;padding:0 1em}\nnav p{max-height:9em;overflow:auto}\ntable{border-collapse:collapse}\nth,td{padding:.2em .8em;text-align:right;border-bottom:1px solid #8884}\n[colspan],td:last-child{text-align:left}\ntd[colspan]{white-space:pre-line}\nsvg{max-width:100%;height:auto;margin:1em 0}\n@media(max-width:600px){section{overflow-x:auto}table{white-space:nowrap}svg{max-width:none}}\n@media(prefers-color-scheme:dark){svg{filter:invert(.9) hue-rotate(180deg)}}\n</style>\n"

-- what stands before the sections
abbrev pub head_text : Limits → List ℕ
head_text limits =
    front_text ++ style_text ++ codes "</head>\n<body>\n<h1>What the register heard</h1>\n<p>" ++ limits_text limits
    ++ codes "</p>\n"

-- the link to the section of a line
abbrev pub link_text : ℕ → List ℕ
link_text line =
    codes "\n<a href=\"#line" ++ four_digits line ++ codes "\">" ++ four_digits line ++ codes "</a>"

-- links to lines under a title; nothing where there are none
abbrev pub links_text : List ℕ → List ℕ → List ℕ
links_text title [] = []
links_text title (line ∷ lines) = codes "<p>" ++ title ++ flat_map link_text (line ∷ lines) ++ codes "\n</p>\n"

-- the list of lines: those with a refused attempt first
abbrev pub list_text : List ℕ → List ℕ → List ℕ
list_text refused others =
    codes "<nav>\n" ++ links_text (codes "Lines with a refused attempt:") refused
    ++ links_text (codes "Other lines:") others ++ codes "</nav>\n"

-- the heading of a line, to which its link leads
abbrev pub open_text : ℕ → List ℕ
open_text line =
    codes "<section id=\"line" ++ four_digits line ++ codes "\">\n<h2>Line " ++ four_digits line
    ++ codes "</h2>\n<table>\n"

-- the row that names the columns
unfoldable pub columns_text : List ℕ
columns_text = codes "<tr><th>digit</th><th>pulses</th><th>p/s</th><th>% break</th><th>break ms</th><th>make ms</th><th>pause ms</th><th></th></tr>\n"

-- the section of a line: its heading, the table of its attempts, and its picture
abbrev pub section_text : Limits → ℕ → List AttemptOfRuns → List ℕ → List ℕ
section_text limits line attempts picture =
    open_text line ++ columns_text ++ rows_from limits line 1 attempts ++ codes "</table>\n" ++ picture
    ++ codes "</section>\n"

-- what stands after the sections
abbrev pub tail_text : List ℕ
tail_text = codes "</body>\n</html>\n"

-- a page by these limits: its list of lines, and its sections, one after the other
abbrev pub page_text : Limits → List ℕ → List ℕ → List ℕ
page_text limits list sections = head_text limits ++ list ++ sections ++ tail_text
