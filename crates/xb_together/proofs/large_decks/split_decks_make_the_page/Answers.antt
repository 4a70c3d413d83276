use Rattle.xb_together.proofs.SplitPages.{split_decks_make_the_page}
use Rattle.xb_together.proofs.large_decks.split_decks_make_the_page.Goals as goal

pub returns : goal.returns
returns c = split_decks_make_the_page c.made_decks_say_their_page.ensures
