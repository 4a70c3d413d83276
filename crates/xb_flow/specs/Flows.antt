-- Items as they go through a ring.
use Rattle.std.specs.Prelude.{◌≡◌, ℕ, ◌-◌, ◌^◌, min, Bool, true, false, if◌then◌else◌, List, [], ◌∷◌, ◌++◌, map}
use Rattle.xb_flow.specs.declared.flow.Flow.{Flow}
use Rattle.xb_flow.specs.declared.flow.Flow.TheVariants.{Item, End}

module _ {X : Type 0} where
  -- the items before the first End
  abbrev pub items_of : List (Flow X) → List X
  items_of [] = []
  items_of (Item x ∷ xs) = x ∷ items_of xs
  items_of (End ∷ xs) = []

  -- whether an End stands in the list
  abbrev pub has_end : List (Flow X) → Bool
  has_end [] = false
  has_end (Item x ∷ xs) = has_end xs
  has_end (End ∷ xs) = true

  -- items, and then one End or none
  abbrev pub flow_of : List X → Bool → List (Flow X)
  flow_of xs ended = map Item xs ++ (if ended then End ∷ [] else [])

  -- items, and then one End or none, with nothing after it
  abbrev pub IsFlow : List (Flow X) → Type 0
  IsFlow xs = xs ≡ flow_of (items_of xs) (has_end xs)

  -- items, and then one End
  abbrev pub IsEnded : List (Flow X) → Type 0
  IsEnded xs = xs ≡ flow_of (items_of xs) true

-- a count of items as the gates see it: from 2^64 - 1 on it stays
abbrev pub counted : ℕ → ℕ
counted n = min n (2 ^ 64 - 1)
