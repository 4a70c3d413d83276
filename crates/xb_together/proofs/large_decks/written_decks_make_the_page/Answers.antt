use Rattle.xb_together.proofs.WrittenDecks.{written_decks_make_the_page}
use Rattle.xb_together.proofs.large_decks.written_decks_make_the_page.Goals as goal

pub returns : goal.returns
returns c = written_decks_make_the_page c.planned_decks_make_the_page.ensures
