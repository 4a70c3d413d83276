-- The last digits of a line, and how many older ones there were.
use Rattle.std.specs.Prelude.{ℕ, ◌+◌, ◌-◌, ◌^◌, List, [], ◌∷◌, ◌++◌, drop, if◌then◌else◌, length, min, nat_le}
use Rattle.xb_plot.specs.declared.turns.Turn.{Turn}
use Rattle.xb_plot.specs.declared.turns.TheConstants.{MOST_TURNS}

pub record LastTurns : Type 0 where
  pub turns : List Turn
  pub older : ℕ

abbrev pub no_turns : LastTurns
no_turns = record { turns = []; older = 0 }

-- where they are enough, the oldest goes
abbrev pub rest_of : List Turn → List Turn
rest_of turns = if nat_le MOST_TURNS (length turns) then drop 1 turns else turns

abbrev pub older_with : List Turn → ℕ → ℕ
older_with turns older = if nat_le MOST_TURNS (length turns) then min (older + 1) (2 ^ 64 - 1) else older

abbrev pub with_room : LastTurns → LastTurns
with_room last = record { turns = rest_of last.turns; older = older_with last.turns last.older }

-- with one more
abbrev pub with_turn : LastTurns → Turn → LastTurns
with_turn last turn = record { turns = rest_of last.turns ++ turn ∷ []; older = older_with last.turns last.older }
