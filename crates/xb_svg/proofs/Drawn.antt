-- What is drawn are the elements, with what they say.
use Rattle.std.proofs.Common.{◌≡◌, ◌++◌, ◌∙◌, List, [], ◌∷◌, ap, map, refl, sym}
use Rattle.std.specs.List.{flat_map}
use Rattle.xb_svg.specs.declared.drawing.Element.{Element}
use Rattle.xb_svg.specs.declared.drawing.Element.TheVariants as element
use Rattle.xb_svg.specs.Drawings.{Item, element_text, filled, item_of, item_text, says, slot_of}

items-are : (elements : List Element) → filled (map slot_of elements) (says elements) ≡ map item_of elements
items-are [] = refl
items-are (element.Band x y width height ink ∷ rest) =
    ap (λ (items : List Item). item_of (element.Band x y width height ink) ∷ items) (items-are rest)
items-are (element.Line steps ink width ∷ rest) =
    ap (λ (items : List Item). item_of (element.Line steps ink width) ∷ items) (items-are rest)
items-are (element.Text x y look words ∷ rest) =
    ap (λ (items : List Item). item_of (element.Text x y look words) ∷ items) (items-are rest)
items-are (element.Scale x y look words ∷ rest) =
    ap (λ (items : List Item). item_of (element.Scale x y look words) ∷ items) (items-are rest)

texts-are : (elements : List Element) → flat_map element_text elements ≡ flat_map item_text (map item_of elements)
texts-are [] = refl
texts-are (one ∷ rest) = ap (λ t. element_text one ++ t) (texts-are rest)

pub elements-are : (elements : List Element)
    → flat_map element_text elements ≡ flat_map item_text (filled (map slot_of elements) (says elements))
elements-are elements = texts-are elements ∙ ap (flat_map item_text) (sym (items-are elements))
