-- Decks, worked out by hand.
use Rattle.std.specs.Prelude.{ℕ, ◌≡◌, List, [], ◌∷◌, codes, None}
use Rattle.xb_deck.specs.Deck.{deck_parts}
use Rattle.xb_deck.specs.MadeDecks.{IsCutInto}

abbrev pub HasNoCut : List ℕ → Type 0
HasNoCut deck = deck_parts deck ≡ None

-- where some decks are cut: the first line that is the cut does it, and no other
pub record CutsOfDecks : Type 0 where
  pub bare : IsCutInto (codes "---") [] []
  pub ended : IsCutInto (codes "---\n") [] []
  pub at_the_end : IsCutInto (codes "a = 1\n---") (codes "a = 1\n") []
  pub carriage_return_at_the_end : IsCutInto (codes "a = 1\n---\r") (codes "a = 1\n") []
  pub carriage_returns : IsCutInto (codes "a\r\n---\r\nb\r\n") (codes "a\r\n") (codes "b\r\n")
  pub twice : IsCutInto (codes "a\n----\n---\nb\n---\nc") (codes "a\n----\n") (codes "b\n---\nc")
  pub empty_lines : IsCutInto (codes "\n\n---\n\n") (codes "\n\n") (codes "\n")

-- some decks that have no cut: only one CR is dropped, and only before the end of a line; a byte order
-- mark makes the line another
pub record DecksWithoutCut : Type 0 where
  pub empty : HasNoCut []
  pub longer_lines : HasNoCut (codes "a\n---x\n----\n-\n")
  pub blanks : HasNoCut (codes " ---\n--- \n")
  pub carriage_returns : HasNoCut (codes "---\r\r\n\r---\n")
  pub byte_order_mark : HasNoCut (0xEF ∷ 0xBB ∷ 0xBF ∷ codes "---\n")
