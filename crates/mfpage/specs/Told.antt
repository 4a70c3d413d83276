-- What is told of a deck, as `mfcheck` tells it.
use Rattle.std.specs.Prelude.{ℕ, ◌≡◌, ◌<◌, ◌≤◌, List, codes, false, length, take, Some}
use Rattle.xb_check.specs.declared.fault.CheckFault.{CheckFault}
use Rattle.xb_check.specs.declared.fault.CheckFault.TheVariants as fault
use Rattle.xb_check.specs.Judged.{IsVerdict}
use Rattle.xb_check.specs.Reports.{report_text}
use Rattle.xb_deck.specs.declared.fault.DeckFault.TheVariants as deck_fault

-- the deck is refused, since it is too long
abbrev pub IsTooLong : List ℕ → Type 0
IsTooLong deck = IsVerdict deck (Some deck_fault.TooLong)

-- why nothing is told of a deck
abbrev pub IsUntold : List ℕ → CheckFault → Type 0
IsUntold deck fault.TooLong = IsTooLong deck
IsUntold deck f = Unit {0}

-- the lines that `mfcheck` writes of a deck without a name are in the room: of each kind the first ten
pub record AreTold (deck room : List ℕ) (count : ℕ) : Type 0 where
  pub lines : take count room ≡ report_text (codes "deck") false deck
  pub few : count ≤ length room

-- the lines are longer than the room, which is as it was, and have as many bytes as are counted
pub record NeedsRoomForLines (deck old new : List ℕ) (count : ℕ) : Type 0 where
  pub is : count ≡ length (report_text (codes "deck") false deck)
  pub longer : length old < count
  pub kept : new ≡ old
