-- A deck that was made is cut into what it was made of.
use Rattle.std.proofs.Common.{◌≡◌, [], ◌∷◌, ◌++◌, refl, ap, ◌∙◌, append_assoc}
use Rattle.std.specs.Prelude.{codes, option_map}
use Rattle.std.proofs.lemmas.List.Splits.{slice_split_at, join_with_byte-slice_split}
use Rattle.xb_deck.specs.Deck.{deck_parts, ends_line, with_earlier, line_feed}
use Rattle.xb_deck.specs.MadeDecks.{MadeDecksAreCut, made_deck}

-- a deck that was made is cut into its parts
pub made_decks_are_cut : MadeDecksAreCut
made_decks_are_cut [] rows h = rw (join_with_byte-slice_split line_feed rows) refl
made_decks_are_cut (line ∷ lines) rows h =
    let rest = made_deck lines rows in
    let whole : made_deck (line ∷ lines) rows ≡ line ++ line_feed ∷ rest = simp append_assoc refl in
    let split = slice_split_at ends_line line line_feed rest h.1 refl in
    ap deck_parts whole ∙ rw (split, h.0) (ap (option_map (with_earlier (line ++ codes "\n"))) (made_decks_are_cut lines rows h.2))
