-- One picture of many keyings.
use Rattle.std.specs.Prelude.{ℕ, ◌+◌, ◌-◌, ◌^◌, ◌==◌, min, List, [], ◌∷◌, ◌++◌, codes, decimal, if◌then◌else◌, length, Option, take}
use Rattle.std.specs.List.{flat_map}
use Rattle.xb_measured.specs.declared.heard.Heard.{Heard}
use Rattle.xb_shown.specs.declared.heading.Title.{Title}
use Rattle.xb_shown.specs.declared.part.Part.{Part as Shown}
use Rattle.xb_shown.specs.declared.picture.TheConstants.{MOST_DRAWN}
use Rattle.xb_shown.specs.Keyings.{part_words}

-- keys and what they are, and the last key before them
pub record Part : Type 0 where
  pub title : Title
  pub before : Option Heard
  pub keys : List Heard

abbrev pub part_of : Title → Option Heard → List Heard → Part
part_of title before keys = record { title = title; before = before; keys = keys }

abbrev pub part_in : Shown → Part
part_in shown = part_of shown.title shown.before shown.keys.now

-- what is said of parts, one below the other
abbrev pub parts_words : List Part → List (List ℕ)
parts_words parts = flat_map (λ (part : Part). part_words part.title part.before part.keys) parts

-- and of others, if there are any
abbrev pub others_text : ℕ → List ℕ
others_text others = decimal others ++ codes " more are not drawn"

abbrev pub others_words : ℕ → List (List ℕ)
others_words others = if others == 0 then [] else others_text others ∷ []

-- the picture of parts: the first of them, and how many others there are; counting stops at the greatest number that
-- there is
abbrev pub came : List Part → ℕ
came parts = min (length parts) (2 ^ 64 - 1)

abbrev pub picture_words : List Part → List (List ℕ)
picture_words parts = parts_words (take MOST_DRAWN parts) ++ others_words (came parts - MOST_DRAWN)

-- what a picture has so far: what it says, and how many parts came
pub record Drawn : Type 0 where
  pub words : List (List ℕ)
  pub came : ℕ

abbrev pub nothing_drawn : Drawn
nothing_drawn = record { words = []; came = 0 }

-- the later parts that there is still room for
abbrev pub fitting : Drawn → List Part → List Part
fitting drawn later = take (MOST_DRAWN - drawn.came) later

-- how many came with later ones
abbrev pub came_with : Drawn → List Part → ℕ
came_with drawn later = min (drawn.came + length later) (2 ^ 64 - 1)

-- what the picture says once later parts come too
abbrev pub picture_rest : Drawn → List Part → List (List ℕ)
picture_rest drawn later =
    drawn.words ++ parts_words (fitting drawn later) ++ others_words (came_with drawn later - MOST_DRAWN)
