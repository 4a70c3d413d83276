-- The bounces that a seed draws.
use Rattle.std.specs.Prelude.{ℕ, zero, suc, ◌+◌, ◌*◌, ◌/◌, ◌%◌, List, [], ◌∷◌, nat_le, nat_lt, ◌&&◌, if◌then◌else◌}
use Rattle.xb_chance.specs.Words.{state_after, word_of}
use Rattle.xb_contact.specs.declared.hold.Hold.{Hold}
use Rattle.xb_contact.specs.Bounces.{Bounce, Disturbed}
use Rattle.xb_dial.specs.declared.bouncing.TheConstants.{MOST_BOUNCES, DRAWS}

-- draw n of a run, from 1, by the state before it
abbrev pub draw : ℕ → ℕ → ℕ
draw state n = word_of (state_after state n)

-- a time of 1 to `most` us
abbrev pub part_at : ℕ → ℕ → ℕ → ℕ
part_at most state n = 1 + draw state n % most

-- bounce j of a run, from 0: draw 2 j + 2 holds, and draw 2 j + 3 leaves
abbrev pub bounce_at : ℕ → ℕ → ℕ → Bounce
bounce_at most state j =
    record { holds = part_at most state (2 * j + 2); leaves = part_at most state (2 * j + 3) }

-- so many bounces, from bounce j on
abbrev pub bounces_from : ℕ → ℕ → ℕ → ℕ → List Bounce
bounces_from most state j zero = []
bounces_from most state j (suc count) = bounce_at most state j ∷ bounces_from most state (j + 1) count

-- how many: 0 to 4 by draw 1, and none in a run of no more than `us` us, or where a part would have none
abbrev pub count_of : ℕ → ℕ → ℕ → ℕ
count_of us state ticks =
    if nat_le (2 * MOST_BOUNCES) us && nat_lt us ticks then draw state 1 % (MOST_BOUNCES + 1) else 0

-- the bounces of a run: of its first `us` us each part has an eighth at most
abbrev pub bounces_of : ℕ → ℕ → ℕ → List Bounce
bounces_of us state ticks = bounces_from (us / (2 * MOST_BOUNCES)) state 0 (count_of us state ticks)

abbrev pub disturbed_by : ℕ → ℕ → Hold → Disturbed
disturbed_by us state run = record { run = run; bounces = bounces_of us state run.ticks }

-- runs one after the other: the first bounces for at most `first` us, and each has nine draws of its own
abbrev pub disturbed_from : ℕ → ℕ → ℕ → List Hold → List Disturbed
disturbed_from first us state [] = []
disturbed_from first us state (run ∷ rest) =
    disturbed_by first state run ∷ disturbed_from us us (state_after state DRAWS) rest
