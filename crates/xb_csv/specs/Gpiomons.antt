-- What gpiomon writes, line by line.
use Rattle.std.specs.Prelude.{ℕ, ◌+◌, ◌-◌, List, [], ◌∷◌, ◌++◌, Bool, false, Option, Some, None, Result, Ok, Err, bytes_eq, codes, drop, is_some, length, map, nat_le, nat_eq, not, replicate, slice_index, take, ◌==◌, ◌&&◌, ◌||◌, if◌then◌else◌, option_map}
use Rattle.std.specs.List.{position, starts_with}
use Rattle.std.specs.Option.{ok_or, option_and_then}
use Rattle.xb_contact.specs.declared.scale.TheConstants.{NANOSECONDS}
use Rattle.xb_contact.specs.Holds.{same_level}
use Rattle.xb_contact.specs.Numbers.{number_of}
use Rattle.xb_csv.specs.Cells.{trimmed}
use Rattle.xb_csv.specs.Seconds.{nanoseconds_of}
use Rattle.xb_contact.specs.declared.event.Event.{Event}
use Rattle.xb_contact.specs.declared.event.Event.TheVariants as events
use Rattle.xb_contact.specs.declared.event.Refusal.{Refusal}
use Rattle.xb_contact.specs.declared.event.Refusal.TheVariants as refusals
use Rattle.xb_contact.specs.Steps.{Said, is_before, result_and_then, result_map, say_to_end}
use Rattle.xb_contact.specs.declared.level.Level.{Level}
use Rattle.xb_contact.specs.declared.level.Level.TheVariants.{Open, Closed}
use Rattle.xb_csv.specs.declared.gpiomon.Edge.{Edge}
use Rattle.xb_csv.specs.declared.gpiomon.Gpiomon.{Gpiomon}

-- words are parted by spaces and tabs
abbrev pub is_gap : ℕ → Bool
is_gap byte = (byte == 32) || (byte == 9)

abbrev pub cut_word : List ℕ → Option ℕ → List ℕ × List ℕ
cut_word text None = (text, [])
cut_word text (Some end) = (take end text, trimmed (drop end text))

-- the first word of a text, and what follows it
unfoldable pub first_word : List ℕ → List ℕ × List ℕ
first_word text = cut_word (trimmed text) (position is_gap (trimmed text))

-- a text without a byte before it and one after it, if they are there
unfoldable pub between : ℕ → ℕ → List ℕ → Option (List ℕ)
between before after text =
    if nat_le 2 (length text) && (slice_index text 0 == before) && (slice_index text (length text - 1) == after)
    then Some (trimmed (take (length text - 2) (drop 1 text))) else None

-- the level of a wire that rises, or falls
abbrev pub level_after : List ℕ → Option Level
level_after word =
    if bytes_eq word (codes "RISING") || bytes_eq word (codes "rising") then Some Closed
    else (if bytes_eq word (codes "FALLING") || bytes_eq word (codes "falling") then Some Open else None)

-- what a line says: a time in seconds, what it writes of a wire, and the level of that from then on
pub record EdgeSaid : Type 0 where
  pub time : List ℕ
  pub level : Level
  pub wire : List ℕ

abbrev pub edge_with : List ℕ → List ℕ → Level → EdgeSaid
edge_with time wire level = record { time = time; level = level; wire = wire }

abbrev pub edge_said : Edge → EdgeSaid
edge_said edge = edge_with edge.time.now edge.wire.now edge.level

-- the six words of libgpiod 1, the last of which is the time in brackets: `event:`, how it changes, `EDGE`, `offset:`,
-- the line, `timestamp:`
abbrev pub edge_by : List ℕ × List ℕ → List ℕ × List ℕ → List ℕ × List ℕ → List ℕ × List ℕ → List ℕ × List ℕ
    → Option EdgeSaid
edge_by kind edge offset wire stamp =
    if bytes_eq edge.0 (codes "EDGE") && bytes_eq offset.0 (codes "offset:") && bytes_eq stamp.0 (codes "timestamp:")
    then option_and_then (λ level. option_map (λ time. edge_with time wire.0 level) (between 91 93 stamp.1)) (level_after kind.0)
    else None

abbrev pub word_after : List ℕ × List ℕ → List ℕ × List ℕ
word_after word = first_word word.1

unfoldable pub first_kind : List ℕ → Option EdgeSaid
first_kind line =
    let kind = word_after (first_word line) in
    let edge = word_after kind in
    let offset = word_after edge in
    let wire = word_after offset in
    edge_by kind edge offset wire (word_after wire)

-- a text is this name, as it stands or in quotes
abbrev pub is_text : List ℕ → Option (List ℕ) → Bool
is_text name None = false
is_text name (Some text) = bytes_eq name text

abbrev pub is_name : List ℕ → List ℕ → Bool
is_name name text = bytes_eq name text || is_text name (between 34 34 text)

-- a number, by itself or before a name: it names the wire, and so does the name
abbrev pub is_numbered : List ℕ → List ℕ → Bool
is_numbered name text =
    is_some (number_of (first_word text).0)
    && (bytes_eq name (first_word text).0 || is_name name (first_word text).1)

-- the names of a wire: all that gpiomon writes of it, and that without its quotes; where it begins with a chip, what
-- stands after the chip; and where that begins with a number, the number, and the name after it
abbrev pub names_by : List ℕ → List ℕ → Option (List ℕ) → Bool
names_by name text (Some inner) = bytes_eq name text || bytes_eq name inner
names_by name text None =
    bytes_eq name text || (bytes_eq name (first_word text).1 || is_numbered name (first_word text).1)

unfoldable pub names_wire : List ℕ → List ℕ → Bool
names_wire name text = names_by name text (between 34 34 text)

-- one of these names: what stands in quotes; else what stands after the chip, if anything does, and of that the number, if
-- it begins with one
abbrev pub number_or_all : List ℕ → List ℕ → List ℕ
number_or_all text number = if is_some (number_of number) then number else text

abbrev pub name_by : List ℕ → Option (List ℕ) → List ℕ
name_by text (Some inner) = inner
name_by text None =
    if length (first_word text).1 == 0 then text
    else number_or_all (first_word text).1 (first_word (first_word text).1).0

unfoldable pub name_of_wire : List ℕ → List ℕ
name_of_wire text = name_by text (between 34 34 text)

-- what libgpiod 2 writes: the time, how it changes, and the wire
unfoldable pub second_kind : List ℕ → Option EdgeSaid
second_kind line =
    let time = first_word line in
    let kind = word_after time in
    if length kind.1 == 0 then None
    else option_map (λ level. edge_with time.0 kind.1 level) (level_after kind.0)

abbrev pub edge_of : List ℕ → Option EdgeSaid
edge_of line = if starts_with nat_eq line (codes "event:") then first_kind line else second_kind line

-- the name of the wire whose edge a line tells
abbrev pub wire_of_edge : List ℕ → Option (List ℕ)
wire_of_edge line = option_map (λ edge. name_of_wire edge.wire) (edge_of (trimmed line))

-- whether edges may be lost, the wires that are asked for, the level of each that an edge has told, and the last time,
-- if there is one
pub record GpiomonState : Type 0 where
  pub lossy : Bool
  pub names : List (List ℕ)
  pub levels : List (Option Level)
  pub last : Option ℕ

abbrev pub gpiomon_by : Bool → List (List ℕ) → List (Option Level) → Option ℕ → GpiomonState
gpiomon_by lossy names levels last = record { lossy = lossy; names = names; levels = levels; last = last }

-- no edge of them has come
abbrev pub gpiomon_with : Bool → List (List ℕ) → Option ℕ → GpiomonState
gpiomon_with lossy names last = gpiomon_by lossy names (replicate (length names) None) last

abbrev pub gpiomon_state : Gpiomon → GpiomonState
gpiomon_state gpiomon =
    gpiomon_by gpiomon.lossy (map (λ name. name.now) gpiomon.names.now) gpiomon.levels.items gpiomon.last

-- a wire rises and falls in turn: where it does the same again, the edge between is lost, and that is refused unless edges
-- may be lost
abbrev pub edge_taken : Bool → Option Level → Level → Result (Option Level) Refusal
edge_taken lossy None level = Ok (Some level)
edge_taken lossy (Some last) level =
    if same_level last level && not lossy then Err refusals.LostEdge else Ok (Some level)

-- the levels of the wires after an edge of those that a text names
abbrev pub level_taken : Bool → List ℕ → Level → List ℕ → Option Level → Result (Option Level) Refusal
level_taken lossy text level name own = if names_wire name text then edge_taken lossy own level else Ok own

abbrev pub levels_after :
    Bool → List ℕ → Level → List (List ℕ) → List (Option Level) → Result (List (Option Level)) Refusal
levels_after lossy text level names [] = Ok []
levels_after lossy text level [] (own ∷ rest) = Ok (own ∷ rest)
levels_after lossy text level (name ∷ names) (own ∷ rest) =
    result_and_then (λ now. result_map (λ later. now ∷ later) (levels_after lossy text level names rest))
    (level_taken lossy text level name own)

-- the wires that a text names, from this one on, have an edge to a level
abbrev pub named_edges : ℕ → List ℕ → Level → List (List ℕ) → List Event
named_edges wire text level [] = []
named_edges wire text level (name ∷ rest) =
    if names_wire name text then events.Edge wire level ∷ named_edges (wire + 1) text level rest
    else named_edges (wire + 1) text level rest

-- a time, the first of which says that ticks are nanoseconds
abbrev pub time_said : Option ℕ → ℕ → List Event
time_said None time = events.Ticks NANOSECONDS ∷ events.At time ∷ []
time_said (Some last) time = events.At time ∷ []

-- an edge: its time, not before the last one, and the wires that have it
abbrev pub edge_says : GpiomonState → EdgeSaid → ℕ → Said GpiomonState
edge_says state edge time =
    if is_before time state.last then Err refusals.Backwards
    else result_map
    (λ levels. (
      time_said state.last time ++ named_edges 0 edge.wire edge.level state.names,
      gpiomon_by state.lossy state.names levels (Some time),
    ))
    (levels_after state.lossy edge.wire edge.level state.names state.levels)

-- a line that is not empty
abbrev pub edge_line_says : GpiomonState → List ℕ → Said GpiomonState
edge_line_says state line =
    result_and_then
    (λ edge. result_and_then (λ time. edge_says state edge time) (ok_or (nanoseconds_of edge.time) refusals.Time))
    (ok_or (edge_of line) refusals.Edge)

-- a line, without the blanks around it; an empty one says nothing
abbrev pub gpiomon_line_says : GpiomonState → List ℕ → Said GpiomonState
gpiomon_line_says state line =
    if length (trimmed line) == 0 then Ok ([], state) else edge_line_says state (trimmed line)

-- lines from a state on; after the last one nothing is left to be said
abbrev pub gpiomon_ends : GpiomonState → Result (List Event) Refusal
gpiomon_ends state = Ok []

abbrev pub gpiomon_says : GpiomonState → List (List ℕ) → Result (List Event) Refusal
gpiomon_says state lines = say_to_end gpiomon_line_says gpiomon_ends state lines
