-- How many edges wires have.
use Rattle.std.specs.Prelude.{ℕ, ◌≡◌, ◌+◌, ◌-◌, ◌^◌, min, List, [], ◌∷◌, Bool, true, false, Option, Some, None, not, option_map, slice_get, slice_set, ◌==◌, ◌||◌, if◌then◌else◌}
use Rattle.std.specs.Option.{option_map_or}
use Rattle.xb_contact.specs.declared.event.Event.{Event}
use Rattle.xb_contact.specs.declared.event.Event.TheVariants as events
use Rattle.xb_contact.specs.declared.level.Level.{Level}
use Rattle.xb_contact.specs.Holds.{same_level}
use Rattle.xb_loop.specs.declared.counts.Seen.{Seen}

-- the levels that are said of a wire, in order, and of each whether it is said as an edge
abbrev pub said_of : ℕ → List Event → List (Bool × Level)
said_of wire [] = []
said_of wire (events.Ticks scale ∷ rest) = said_of wire rest
said_of wire (events.At tick ∷ rest) = said_of wire rest
said_of wire (events.Level other level ∷ rest) =
    if other == wire then (false, level) ∷ said_of wire rest else said_of wire rest
said_of wire (events.Edge other level ∷ rest) =
    if other == wire then (true, level) ∷ said_of wire rest else said_of wire rest

-- a level is an edge where it is said as one, or is another one than that before
abbrev pub is_edge : Bool → Option Level → Level → Bool
is_edge said None level = said
is_edge said (Some own) level = said || not (same_level own level)

-- the edges of a wire of which these levels are said, after one that is known
abbrev pub edges_after : Option Level → List (Bool × Level) → ℕ
edges_after own [] = 0
edges_after own ((said, level) ∷ rest) = (if is_edge said own level then 1 else 0) + edges_after (Some level) rest

abbrev pub edges_in : List (Bool × Level) → ℕ
edges_in levels = edges_after None levels

-- what is seen of a wire, up to 2^64 - 1 edges
abbrev pub seen_of : Option Level → ℕ → Seen
seen_of level edges = record { level = level; edges = edges }

abbrev pub nothing_seen : Seen
nothing_seen = seen_of None 0

abbrev pub level_seen : Seen → Bool × Level → Seen
level_seen seen (said, level) =
    seen_of (Some level) (if is_edge said seen.level level then min (seen.edges + 1) (2 ^ 64 - 1) else seen.edges)

abbrev pub levels_seen : Seen → List (Bool × Level) → Seen
levels_seen seen [] = seen
levels_seen seen (level ∷ rest) = levels_seen (level_seen seen level) rest

abbrev pub wire_counted : List Seen → ℕ → Bool × Level → List Seen
wire_counted seen wire level = option_map_or (λ own. slice_set seen wire (level_seen own level)) (slice_get seen wire) seen

abbrev pub event_counted : List Seen → Event → List Seen
event_counted seen (events.Ticks scale) = seen
event_counted seen (events.At tick) = seen
event_counted seen (events.Level wire level) = wire_counted seen wire (false, level)
event_counted seen (events.Edge wire level) = wire_counted seen wire (true, level)

-- those are its edges
abbrev pub EdgesAreSeen : Type 0
EdgesAreSeen =
    (levels : List (Bool × Level)) → (levels_seen nothing_seen levels).edges ≡ min (edges_in levels) (2 ^ 64 - 1)

-- of each wire what is said of it was seen
abbrev pub IsCountedAfter : List Seen → List Event → List Seen → Type 0
IsCountedAfter old said new =
    (wire : ℕ) → slice_get new wire ≡ option_map (λ seen. levels_seen seen (said_of wire said)) (slice_get old wire)
