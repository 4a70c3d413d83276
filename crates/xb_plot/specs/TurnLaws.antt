-- Of digits that are taken one by one the last are kept, and the others are counted.
use Rattle.std.specs.Prelude.{ℕ, ◌≡◌, ◌-◌, ◌^◌, List, [], ◌∷◌, drop, length, min}
use Rattle.xb_plot.specs.declared.turns.Turn.{Turn}
use Rattle.xb_plot.specs.declared.turns.TheConstants.{MOST_TURNS}
use Rattle.xb_plot.specs.Turns.{LastTurns, no_turns, with_turn}

-- with many more, one by one
abbrev pub with_turns : LastTurns → List Turn → LastTurns
with_turns last [] = last
with_turns last (turn ∷ turns) = with_turns (with_turn last turn) turns

-- the last of all, and how many stand before them
abbrev pub last_of : List Turn → List Turn
last_of turns = drop (length turns - MOST_TURNS) turns

abbrev pub before_last : List Turn → ℕ
before_last turns = min (length turns - MOST_TURNS) (2 ^ 64 - 1)

abbrev pub last_turns : List Turn → LastTurns
last_turns turns = record { turns = last_of turns; older = before_last turns }

abbrev pub KeepsTheLast : Type 0
KeepsTheLast = (turns : List Turn) → with_turns no_turns turns ≡ last_turns turns
