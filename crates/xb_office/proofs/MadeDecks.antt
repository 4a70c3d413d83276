-- A deck that was made says the page of what it was made of.
use Rattle.std.proofs.Common.{length, ap}
use Rattle.std.proofs.lemmas.Bool.{le-ltb}
use Rattle.xb_model.specs.Sources.{Rest}
use Rattle.xb_rows.specs.WrittenRows.{text_of_rows}
use Rattle.xb_rows.proofs.WrittenRecords.{written_rows_are_read}
use Rattle.xb_deck.specs.declared.deck.TheConstants.{MOST_DECK_BYTES}
use Rattle.xb_deck.proofs.MadeDecks.{made_decks_are_cut}
use Rattle.xb_deck.specs.Contents.{with_rows}
use Rattle.xb_office.specs.DeckPage.{page_of_contents}
use Rattle.xb_office.specs.MadeDecks.{MadeDecksSayTheirPage, deck_of}

-- such a deck says the page of its rows
pub made_decks_say_their_page : MadeDecksSayTheirPage
made_decks_say_their_page lines table rows h is lawful few fits =
    rw (le-ltb MOST_DECK_BYTES (length (deck_of lines rows)) fits, made_decks_are_cut lines (text_of_rows rows) h, is)
    (ap (λ (rest : Rest). page_of_contents (with_rows table rest.rows rest.stop)) (written_rows_are_read rows lawful few))
