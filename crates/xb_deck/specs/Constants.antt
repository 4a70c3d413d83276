-- The most bytes of a deck, as it is.
use Rattle.std.specs.Prelude.{◌≡◌}
use Rattle.xb_deck.specs.declared.deck.TheConstants.{MOST_DECK_BYTES}

-- a definition that cites the constant means this number
abbrev pub MostDeckBytesIsRight : Type 0
MostDeckBytesIsRight = MOST_DECK_BYTES ≡ 16777216
