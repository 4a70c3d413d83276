-- The decks that a split writes, and their pages.
use Rattle.std.specs.Prelude.{ℕ, ◌≡◌, ◌<◌, [], List, length, Option, Some, IfSome, Ok, slice_index_or}
use Rattle.xb_model.specs.Rows.{LoopRow}
use Rattle.xb_routes.specs.Table.{Table}
use Rattle.xb_routes.specs.Text.{table_of_text}
use Rattle.xb_office.specs.DeckPage.{page_of, says}
use Rattle.xb_parts.specs.PartDecks.{Decks}
use Rattle.xb_parts.specs.Splits.{HasRows, IsSplit}
use Rattle.xb_parts.specs.Joining.{Given, join_of}
use Rattle.xb_together.specs.SplitDecks.{ranges_of}

-- the page of a deck of any length: neither its table nor its rows have a fault, and this is what they make
pub record HasPage (deck page : List ℕ) : Type 0 where
  pub text : List ℕ
  pub table : Table
  pub rows : List LoopRow
  pub has_rows : HasRows deck text rows
  pub is_table : table_of_text text ≡ Ok table
  pub is_page : page ≡ page_of table rows

-- the page of each part is what an office says of its deck
abbrev pub HaveTheirPages : Decks → List Given → Type 0
HaveTheirPages decks parts =
    (i : ℕ) (d : Given) → i < length parts
    → IfSome (decks i) (λ deck. says deck ≡ Ok (slice_index_or parts i d).page)

-- a deck that is split has a page, and the decks that the split writes have pages that join to it
abbrev pub WrittenDecksMakeThePage : Type 0
WrittenDecksMakeThePage =
    (deck list : List ℕ) (wanted : Option ℕ) (decks : Decks) (parts : List Given)
    → (split : IsSplit (Some deck) wanted (Some []) decks list)
    → ranges_of parts ≡ split.ranges → HaveTheirPages decks parts
    → (page : List ℕ) × HasPage deck page × (join_of parts ≡ Ok page)
