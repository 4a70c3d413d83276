-- How the look of an element is written.
use Rattle.std.specs.Prelude.{ℕ, List, codes, Bool, true, false}
use Rattle.xb_svg.specs.declared.look.Ink.{Ink}
use Rattle.xb_svg.specs.declared.look.Ink.TheVariants as ink
use Rattle.xb_svg.specs.declared.look.Anchor.{Anchor}
use Rattle.xb_svg.specs.declared.look.Anchor.TheVariants as anchor

abbrev pub ink_text : Ink → List ℕ
ink_text ink.Dark = codes "#1b2a3a"
ink_text ink.Faint = codes "#6b7a8a"
ink_text ink.Red = codes "#c8102e"
ink_text ink.Blue = codes "#2f6db5"
ink_text ink.White = codes "#ffffff"
ink_text ink.PaleBlue = codes "#e8f0fa"
ink_text ink.PaleRed = codes "#fdeaec"
ink_text ink.PaleGrey = codes "#f2f2f2"
ink_text ink.PaleGreen = codes "#eaf6ec"
ink_text ink.LightGreen = codes "#cfe9d5"

abbrev pub anchor_text : Anchor → List ℕ
anchor_text anchor.Start = codes "start"
anchor_text anchor.Middle = codes "middle"
anchor_text anchor.End = codes "end"

abbrev pub weight_text : Bool → List ℕ
weight_text true = codes "bold"
weight_text false = codes "normal"
