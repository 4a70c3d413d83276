-- A drawing: what its elements say, and how it is written.
use Rattle.std.specs.Prelude.{ℕ, ◌≡◌, List, [], ◌∷◌, ◌++◌, false, map, string_bytes}
use Rattle.std.specs.List.{flat_map}
use Rattle.xb_svg.specs.declared.drawing.Element.{Element}
use Rattle.xb_svg.specs.declared.drawing.Element.TheVariants as element
use Rattle.xb_svg.specs.declared.line.Step.{Step}
use Rattle.xb_svg.specs.declared.look.Anchor.TheVariants.{Start}
use Rattle.xb_svg.specs.declared.look.Ink.{Ink}
use Rattle.xb_svg.specs.declared.look.Ink.TheVariants.{Dark}
use Rattle.xb_svg.specs.declared.look.Look.{Look}
use Rattle.xb_svg.specs.Elements.{band_text, end_text, frame_text, line_text, words_text}

-- what stands on the paper: each is an element that is closed, and words are escaped
pub data Item : Type 0 where
  a_band : ℕ → ℕ → ℕ → ℕ → Ink → Item
  a_line : List Step → Ink → ℕ → Item
  a_text : ℕ → ℕ → Look → List ℕ → Item

abbrev pub item_text : Item → List ℕ
item_text (a_band x y width height ink) = band_text x y width height ink
item_text (a_line steps ink width) = line_text steps ink width
item_text (a_text x y look words) = words_text x y look words

-- how a drawing looks: its size, and in order what is its own, and where each text stands that it says
pub data Slot : Type 0 where
  own : Item → Slot
  of_words : ℕ → ℕ → Look → Slot

pub record Looks : Type 0 where
  pub width : ℕ
  pub height : ℕ
  pub slots : List Slot

abbrev pub plain : List ℕ → Item
plain words = a_text 0 0 (record { size = 0; ink = Dark; anchor = Start; bold = false }) words

-- with all words in order, whatever it looks like
abbrev pub filled : List Slot → List (List ℕ) → List Item
filled [] words = map plain words
filled (own item ∷ slots) words = item ∷ filled slots words
filled (of_words x y look ∷ slots) [] = filled slots []
filled (of_words x y look ∷ slots) (first ∷ words) = a_text x y look first ∷ filled slots words

abbrev pub drawing_text : Looks → List (List ℕ) → List ℕ
drawing_text looks words =
    frame_text looks.width looks.height ++ flat_map item_text (filled looks.slots words) ++ end_text

-- what an element is, where its words stand, and what it says
abbrev pub item_of : Element → Item
item_of (element.Band x y width height ink) = a_band x y width height ink
item_of (element.Line steps ink width) = a_line steps.items ink width
item_of (element.Text x y look words) = a_text x y look (string_bytes words)
item_of (element.Scale x y look words) = a_text x y look (string_bytes words)

abbrev pub slot_of : Element → Slot
slot_of (element.Band x y width height ink) = own (a_band x y width height ink)
slot_of (element.Line steps ink width) = own (a_line steps.items ink width)
slot_of (element.Text x y look words) = of_words x y look
slot_of (element.Scale x y look words) = own (a_text x y look (string_bytes words))

abbrev pub said_by : Element → List (List ℕ)
said_by (element.Band x y width height ink) = []
said_by (element.Line steps ink width) = []
said_by (element.Text x y look words) = string_bytes words ∷ []
said_by (element.Scale x y look words) = []

abbrev pub element_text : Element → List ℕ
element_text element = item_text (item_of element)

-- what elements say, in order
abbrev pub says : List Element → List (List ℕ)
says elements = flat_map said_by elements

-- a text by some looks was put after another
pub record PutsBy (text : Looks → List ℕ) (old new : List ℕ) : Type 0 where
  pub looks : Looks
  pub put : new ≡ old ++ text looks
