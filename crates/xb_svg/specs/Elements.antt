-- The elements of a picture, each in a text line.
use Rattle.std.specs.Prelude.{ℕ, ◌/◌, List, ◌++◌, codes, decimal}
use Rattle.std.specs.List.{flat_map}
use Rattle.xb_svg.specs.declared.look.Ink.{Ink}
use Rattle.xb_svg.specs.declared.look.Ink.TheVariants.{White}
use Rattle.xb_svg.specs.declared.look.Look.{Look}
use Rattle.xb_svg.specs.declared.line.Step.{Step}
use Rattle.xb_svg.specs.declared.line.Step.TheVariants as step
use Rattle.xb_svg.specs.Escaped.{escaped}
use Rattle.xb_svg.specs.Looks.{anchor_text, ink_text, weight_text}

abbrev pub step_text : Step → List ℕ
step_text (step.Move x y) = codes "M" ++ decimal x ++ codes " " ++ decimal y
step_text (step.Straight x y) = codes "L" ++ decimal x ++ codes " " ++ decimal y
step_text (step.Across x) = codes "H" ++ decimal x
step_text (step.Upright y) = codes "V" ++ decimal y

abbrev pub band_text : ℕ → ℕ → ℕ → ℕ → Ink → List ℕ
band_text x y width height ink =
    codes "<rect x=\"" ++ decimal x ++ codes "\" y=\"" ++ decimal y ++ codes "\" width=\"" ++ decimal width
    ++ codes "\" height=\"" ++ decimal height ++ codes "\" fill=\"" ++ ink_text ink ++ codes "\"/>\n"

-- a line, except its end
abbrev pub path_text : List Step → Ink → ℕ → List ℕ
path_text steps ink width =
    codes "<path d=\"" ++ flat_map step_text steps ++ codes "\" fill=\"none\" stroke=\"" ++ ink_text ink
    ++ codes "\" stroke-width=\"" ++ decimal width

abbrev pub line_text : List Step → Ink → ℕ → List ℕ
line_text steps ink width = path_text steps ink width ++ codes "\"/>\n"

abbrev pub dashed_line_text : List Step → Ink → ℕ → List ℕ
dashed_line_text steps ink width = path_text steps ink width ++ codes "\" stroke-dasharray=\"30 20\"/>\n"

-- a dot, except its title and its end
abbrev pub circle_text : ℕ → ℕ → ℕ → Ink → List ℕ
circle_text x y radius ink =
    codes "<circle cx=\"" ++ decimal x ++ codes "\" cy=\"" ++ decimal y ++ codes "\" r=\"" ++ decimal radius
    ++ codes "\" fill=\"" ++ ink_text ink ++ codes "\">"

abbrev pub dot_text : ℕ → ℕ → ℕ → Ink → List ℕ → List ℕ
dot_text x y radius ink title =
    circle_text x y radius ink ++ codes "<title>" ++ escaped title ++ codes "</title></circle>\n"

abbrev pub look_text : Look → List ℕ
look_text look =
    codes "\" font-size=\"" ++ decimal look.size ++ codes "\" fill=\"" ++ ink_text look.ink
    ++ codes "\" text-anchor=\"" ++ anchor_text look.anchor ++ codes "\" font-weight=\"" ++ weight_text look.bold
    ++ codes "\">"

abbrev pub place_text : ℕ → ℕ → List ℕ
place_text x y = codes "<text x=\"" ++ decimal x ++ codes "\" y=\"" ++ decimal y

abbrev pub text_start : ℕ → ℕ → Look → List ℕ
text_start x y look = place_text x y ++ look_text look

abbrev pub text_end : List ℕ
text_end = codes "</text>\n"

-- a text of the picture, its words escaped
abbrev pub words_text : ℕ → ℕ → Look → List ℕ → List ℕ
words_text x y look words = text_start x y look ++ escaped words ++ text_end

-- the first element of a picture: five units are one pixel
abbrev pub open_text : ℕ → ℕ → List ℕ
open_text width height =
    codes "<svg xmlns=\"http://www.w3.org/2000/svg\" viewBox=\"0 0 " ++ decimal width ++ codes " "
    ++ decimal height ++ codes "\" width=\"" ++ decimal (width / 5) ++ codes "\" height=\""
    ++ decimal (height / 5) ++ codes "\" font-family=\"Helvetica, Arial, sans-serif\">\n"

-- the same with white paper
abbrev pub frame_text : ℕ → ℕ → List ℕ
frame_text width height = open_text width height ++ band_text 0 0 width height White

abbrev pub end_text : List ℕ
end_text = codes "</svg>\n"
