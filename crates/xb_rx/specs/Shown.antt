-- The keyings among keys that are heard, and the keys in none, as they are shown on a page or in a picture.
use Rattle.std.specs.Prelude.{ℕ, ◌≡◌, ◌+◌, List, [], ◌∷◌, ◌++◌, Option, Some, None}
use Rattle.xb_measured.specs.declared.heard.Heard.{Heard}
use Rattle.xb_shown.specs.declared.heading.Title.TheVariants as title
use Rattle.xb_shown.specs.Pictures.{Part, part_of, picture_rest, picture_words}
use Rattle.xb_shown.specs.Sections.{page_rest, page_text}
use Rattle.xb_svg.specs.Drawings.{Looks, drawing_text}
use Rattle.xb_measured.specs.Keyings.{Part as KeyPart, is_keying, is_loose, parts_of}
use Rattle.xb_rx.specs.declared.parts.Parts.{Parts}
use Rattle.xb_rx.specs.declared.parts.Sheet.{Sheet}
use Rattle.xb_rx.specs.declared.parts.Sheet.TheVariants as sheet

-- the last of keys, or the one before them
abbrev pub last_of : Option Heard → List Heard → Option Heard
last_of before [] = before
last_of before (key ∷ keys) = last_of (Some key) keys

-- parts of keys with what they are, where the next entry has this number, by the last key before each
abbrev pub shown_after : ℕ → Option Heard → List KeyPart → List Part
shown_after n before [] = []
shown_after n before (is_keying keys ∷ parts) =
    part_of (title.Entry n) before keys ∷ shown_after (n + 1) (last_of before keys) parts
shown_after n before (is_loose key ∷ parts) =
    part_of title.Loose before (key ∷ []) ∷ shown_after n (Some key) parts

-- those of all keys: each keying is the next entry, and each key that stands in none is by itself
abbrev pub shown_of : List Heard → List Part
shown_of keys = shown_after 1 None (parts_of keys)

-- the page in HTML of keys by the looks of its pictures, and their picture by the first of these
abbrev pub html_of : List Heard → (ℕ → Looks) → List ℕ
html_of keys styles = page_text (shown_of keys) styles

abbrev pub svg_of : List Heard → (ℕ → Looks) → List ℕ
svg_of keys styles = drawing_text (styles 0) (picture_words (shown_of keys))

-- keys that stand in no keying, each by itself
abbrev pub loose_parts : Option Heard → List Heard → List Part
loose_parts before [] = []
loose_parts before (key ∷ keys) = part_of title.Loose before (key ∷ []) ∷ loose_parts (Some key) keys

-- what is still to be written of a sheet and of later parts
abbrev pub sheet_rest : Sheet → List Part → (ℕ → Looks) → List ℕ
sheet_rest (sheet.Page begun) later styles = page_rest begun later styles
sheet_rest (sheet.Picture drawn) later styles = drawing_text (styles 0) (picture_rest drawn later)

-- parts were shown by some looks, but for those that are left, and a text was put after another
pub record Shows (old : Sheet) (parts : List Part) (new : Sheet) (left : List Part) (before after : List ℕ) : Type 0 where
  pub by : (ℕ → Looks) → ℕ → Looks
  pub rest : (later : List Part) (styles : ℕ → Looks)
      → after ++ sheet_rest new (left ++ later) styles ≡ before ++ sheet_rest old (parts ++ later) (by styles)

-- all that is left of a sheet was put after another text
pub record ShowsAll (old : Sheet) (before after : List ℕ) : Type 0 where
  pub styles : ℕ → Looks
  pub put : after ≡ before ++ sheet_rest old [] styles

-- what there is so far: the sheet, the last key before the keying that goes on, how many entries there were, and the
-- keys of that keying
pub record Shown : Type 0 where
  pub sheet : Sheet
  pub last : Option Heard
  pub count : ℕ
  pub begun : List Heard

abbrev pub shown : Parts → Shown
shown parts = record { sheet = parts.sheet; last = parts.last; count = parts.count; begun = parts.begun.items }

-- before the first key
abbrev pub fresh_parts : Sheet → Shown
fresh_parts on = record { sheet = on; last = None; count = 0; begun = [] }

-- what is still to be written of later keys
abbrev pub parts_rest : Shown → List Heard → (ℕ → Looks) → List ℕ
parts_rest so_far later styles =
    sheet_rest so_far.sheet (shown_after (so_far.count + 1) so_far.last (parts_of (so_far.begun ++ later))) styles

-- a key was taken, and a text put after another
pub record ShowsKey (old : Shown) (key : Heard) (new : Shown) (before after : List ℕ) : Type 0 where
  pub by : (ℕ → Looks) → ℕ → Looks
  pub rest : (later : List Heard) (styles : ℕ → Looks)
      → after ++ parts_rest new later styles ≡ before ++ parts_rest old (key ∷ later) (by styles)
