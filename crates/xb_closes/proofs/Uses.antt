-- What the rows of a line leave of it.
use Rattle.std.proofs.Common.{◌≡◌, ◌≢◌, ℕ, ◌<◌, true, false, not, cond, Bool, ◌&&◌, ◌||◌, List, [], ◌∷◌, length, set, refl, ap, ◌∙◌}
use Rattle.std.proofs.lemmas.List.{get_or-set_same, get_or-set_other}
use Rattle.xb_model.specs.declared.row.Contact.{Contact}
use Rattle.xb_model.specs.declared.row.Contact.TheVariants.{Make, Brk, Close}
use Rattle.xb_model.specs.Rows.{LoopRow}
use Rattle.xb_model.specs.Records.{is_close, closes, rows_of}
use Rattle.xb_closes.specs.declared.line_use.LineUse.{LineUse}
use Rattle.xb_closes.specs.declared.line_use.LineUse.TheVariants.{NoRows, Open, Closed}
use Rattle.xb_closes.specs.Fed.{has_rows, is_open}
use Rattle.xb_closes.specs.LineUses.{is_closed, is_open_use, heard_use, next_use, use_after, use_at}

-- a line is closed after a row where it was before, or where the row closes it
pub closed_next : (before : LineUse) (contact : Contact) → is_closed (next_use before contact) ≡ (is_closed before || is_close contact)
closed_next NoRows Make = refl
closed_next NoRows Brk = refl
closed_next NoRows Close = refl
closed_next Open Make = refl
closed_next Open Brk = refl
closed_next Open Close = refl
closed_next Closed contact = refl

-- the use of a line that has rows
abbrev used : Bool → LineUse
used closes = cond closes Closed Open

-- a closed line stays closed
from_closed : (rows : List LoopRow) → use_after Closed rows ≡ Closed
from_closed [] = refl
from_closed (row ∷ rows) = from_closed rows

-- what a first row leaves, and then the rows after it
from_heard : (contact : Contact) (rows : List LoopRow) → use_after Open rows ≡ used (closes rows)
    → use_after (heard_use contact) rows ≡ used (is_close contact || closes rows)
from_heard Make rows stays = stays
from_heard Brk rows stays = stays
from_heard Close rows stays = from_closed rows

-- an open line stays open until a close
from_open : (rows : List LoopRow) → use_after Open rows ≡ used (closes rows)
from_open [] = refl
from_open (row ∷ rows) = from_heard row.contact rows (from_open rows)

-- a line that had no rows is open where it has some and they have no close
pub open_after_none : (rows : List LoopRow) → is_open_use (use_after NoRows rows) ≡ (has_rows rows && not (closes rows))
open_after_none [] = refl
open_after_none (row ∷ rows) = ap is_open_use (from_heard row.contact rows (from_open rows)) ∙ at (closes (row ∷ rows))
  where
    at : (closed : Bool) → is_open_use (used closed) ≡ not closed
    at true = refl
    at false = refl

module _ (uses : List LineUse) (l : ℕ) (value : LineUse) where
  -- the line whose use is set, and any other
  pub use_at-set : l < length uses → use_at (set uses l value) l ≡ value
  use_at-set h = get_or-set_same uses l value NoRows h

  pub use_at-other : (k : ℕ) → k ≢ l → use_at (set uses l value) k ≡ use_at uses k
  use_at-other k h = get_or-set_other uses l k value NoRows h
