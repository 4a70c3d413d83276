use Rattle.xb_together.proofs.PlannedPages.{planned_decks_make_the_page}
use Rattle.xb_together.proofs.large_decks.planned_decks_make_the_page.Goals as goal

pub returns : goal.returns
returns c = planned_decks_make_the_page c.split_decks_make_the_page.ensures
