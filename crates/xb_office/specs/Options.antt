-- What the words of the command line choose, as clap reads them.
use Rattle.std.specs.Prelude.{ℕ, ◌≡◌, List, codes, ◌==◌, ◌||◌, nat_lt, Option, Some, None, if◌then◌else◌, option_and_then, option_map}
use Rattle.std.specs.Borrow.{Bor}
use Rattle.std.specs.Option.{unwrap_or}
use Rattle.clap.specs.Walk.{Row, Text, first_of}
use Rattle.xb_branches.specs.declared.branches.TheConstants.{MOST_BRANCHES}
use Rattle.xb_flow.specs.declared.ends.TheConstants.{GREATEST_CAPACITY}
use Rattle.xb_command.specs.Given.{ReadsNumber, given_by}
use Rattle.xb_command.specs.Works.{AsksBy, AsksNothing}
use Rattle.xb_command.specs.declared.table.Call.{Call}
use Rattle.xb_office.specs.declared.options.Asked.{Asked}
use Rattle.xb_office.specs.declared.options.TheConstants.{DEFAULT_RING, DEFAULT_SENDERS}
use Rattle.xb_office.specs.declared.words.Said.{Said}

-- what clap matched says this
pub record Say (rows : List Row) (said : Said) : Type 0 where
  pub deck : option_map (λ text. text.now) said.deck ≡ first_of (codes "DECK") rows
  pub senders : ReadsNumber (given_by rows (codes "senders")) said.senders
  pub ring : ReadsNumber (given_by rows (codes "ring")) said.ring

-- a number that is given, or else its default, where it is from 1 to the greatest
abbrev pub size_of : Option ℕ → ℕ → ℕ → Option ℕ
size_of given default greatest =
    let size = unwrap_or given default in
    if (size == 0) || nat_lt greatest size then None else Some size

-- how many senders there are, and how many items a ring has room for, where both are in their ranges
abbrev pub sizes_of : Said → Option (ℕ × ℕ)
sizes_of said =
    option_and_then (λ senders. option_map (λ ring. (senders, ring))
    (size_of said.ring DEFAULT_RING GREATEST_CAPACITY))
    (size_of said.senders DEFAULT_SENDERS MOST_BRANCHES)

-- which deck is asked for, and these two
abbrev pub chosen_by : Said → Option (Option (Bor Text) × (ℕ × ℕ))
chosen_by said = option_map (λ sizes. (said.deck, sizes)) (sizes_of said)

-- the words of a call ask for a deck and options
abbrev pub Asks : Call → Asked → Type 0
Asks call asked = AsksBy Say chosen_by call (asked.deck, (asked.options.senders, asked.options.ring))

-- they are taken, and a number is out of its range
abbrev pub AskForNothing : Call → Type 0
AskForNothing call = AsksNothing Say chosen_by call
