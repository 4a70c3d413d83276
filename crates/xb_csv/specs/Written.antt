-- Times, edges and tables as they are written.
use Rattle.std.specs.Prelude.{◌≡◌, ℕ, zero, suc, ◌+◌, ◌-◌, ◌/◌, ◌%◌, ◌^◌, ◌<◌, ◌≤◌, List, [], ◌∷◌, ◌++◌, Bool, true, Option, None, Ok, bytes_eq, codes, decimal, if◌then◌else◌, length, not, slice_index_or, ◌==◌, ◌&&◌}
use Rattle.std.specs.Char.{is_ascii_whitespace}
use Rattle.std.specs.List.{list_any, prefix_len, suffix_len}
use Rattle.xb_contact.specs.declared.event.Event.{Event}
use Rattle.xb_contact.specs.declared.event.Event.TheVariants as events
use Rattle.xb_contact.specs.declared.level.Level.{Level}
use Rattle.xb_contact.specs.declared.level.Level.TheVariants.{Open, Closed}
use Rattle.xb_contact.specs.declared.scale.TheConstants.{NANOSECONDS}
use Rattle.xb_contact.specs.Holds.{same_level}
use Rattle.xb_contact.specs.Changes.{AreInOrder, AreNames, Change}
use Rattle.xb_csv.specs.declared.columns.TableForm.TheVariants as forms
use Rattle.xb_csv.specs.Gpiomons.{gpiomon_says, gpiomon_with, names_wire}
use Rattle.xb_csv.specs.Tables.{begun_table, table_says}

-- so many last digits of a number
unfoldable pub last_digits : ℕ → ℕ → List ℕ
last_digits zero number = []
last_digits (suc more) number = last_digits more (number / 10) ++ (48 + number % 10) ∷ []

-- a time in seconds to the nanosecond; ticks are nanoseconds, of which the 2^62nd is at 0 s
unfoldable pub seconds_text : ℕ → List ℕ
seconds_text tick =
    decimal ((tick - 2 ^ 62) / 1000000000) ++ (codes "." ++ last_digits 9 ((tick - 2 ^ 62) % 1000000000))

-- an edge as libgpiod 2 writes it: its time, how its wire changes, the chip, and the wire
abbrev pub way_text : Level → List ℕ
way_text Open = codes "falling"
way_text Closed = codes "rising"

abbrev pub edge_line : List (List ℕ) → Change → List ℕ
edge_line names change =
    seconds_text change.tick
    ++ (codes " " ++ (way_text change.level ++ (codes " gpiochip0 " ++ slice_index_or names change.wire [])))

abbrev pub edge_lines : List (List ℕ) → List Change → List (List ℕ)
edge_lines names [] = []
edge_lines names (edge ∷ rest) = edge_line names edge ∷ edge_lines names rest

-- what is said of edges: of each its tick, and then the edge
abbrev pub edges_said : List Change → List Event
edges_said [] = []
edges_said (edge ∷ rest) = events.At edge.tick ∷ events.Edge edge.wire edge.level ∷ edges_said rest

abbrev pub edge_events : List Change → List Event
edge_events [] = []
edge_events (edge ∷ rest) = events.Ticks NANOSECONDS ∷ edges_said (edge ∷ rest)

-- the next change of this wire is to another level
abbrev pub next_differs : ℕ → Level → List Change → Bool
next_differs wire level [] = true
next_differs wire level (change ∷ rest) =
    if change.wire == wire then not (same_level level change.level) else next_differs wire level rest

-- changes that are edges: each wire rises and falls in turn
abbrev pub are_edges : List Change → Bool
are_edges [] = true
are_edges (change ∷ rest) = next_differs change.wire change.level rest && are_edges rest

-- edges that are written so are read back as they are
abbrev pub WrittenEdgesAreRead : Type 0
WrittenEdgesAreRead =
    (lossy : Bool) (names : List (List ℕ)) (edges : List Change) (end : ℕ) → AreNames names → are_edges edges ≡ true
    → AreInOrder (length names) (2 ^ 62) edges end → end < 2 ^ 63
    → gpiomon_says (gpiomon_with lossy names None) (edge_lines names edges) ≡ Ok (edge_events edges)

-- what libgpiod 2 writes of a line of a chip that has a name: the chip, the number, and the name in quotes
abbrev pub quoted_text : List ℕ → List ℕ
quoted_text name = codes "\"" ++ (name ++ codes "\"")

abbrev pub number_text : ℕ → List ℕ → List ℕ
number_text number name = decimal number ++ (codes " " ++ quoted_text name)

abbrev pub line_text : ℕ → List ℕ → List ℕ
line_text number name = codes "gpiochip0 " ++ number_text number name

-- the wire has exactly these names: the number, the name, with quotes and without, both together, and all of it
abbrev pub LinesAreNamed : Type 0
LinesAreNamed =
    (number : ℕ) (name own : List ℕ) → number < 2 ^ 64 → 0 < length name → prefix_len is_ascii_whitespace name ≡ 0
    → suffix_len is_ascii_whitespace name ≡ 0
    → names_wire own (line_text number name)
    ≡ list_any (bytes_eq own)
    (line_text number name ∷ number_text number name ∷ decimal number ∷ quoted_text name ∷ name ∷ [])

-- a row of a table: the level of each wire at a time
pub record TableRow : Type 0 where
  pub tick : ℕ
  pub levels : List Level

abbrev pub level_text : Level → List ℕ
level_text Open = codes "0"
level_text Closed = codes "1"

abbrev pub levels_text : List Level → List ℕ
levels_text [] = []
levels_text (level ∷ rest) = codes "," ++ (level_text level ++ levels_text rest)

abbrev pub row_lines : List TableRow → List (List ℕ)
row_lines [] = []
row_lines (row ∷ rest) = (seconds_text row.tick ++ levels_text row.levels) ∷ row_lines rest

-- the names of so many wires: their numbers, from this one on
abbrev pub numbers_from : ℕ → ℕ → List (List ℕ)
numbers_from number zero = []
numbers_from number (suc more) = decimal number ∷ numbers_from (number + 1) more

abbrev pub levels_said : ℕ → List Level → List Event
levels_said wire [] = []
levels_said wire (level ∷ rest) = events.Level wire level ∷ levels_said (wire + 1) rest

abbrev pub rows_said : List TableRow → List Event
rows_said [] = []
rows_said (row ∷ rest) = events.At row.tick ∷ (levels_said 0 row.levels ++ rows_said rest)

-- rows of so many wires, whose ticks never fall, from this one on
abbrev pub AreRows : ℕ → ℕ → List TableRow → Type 0
AreRows wires tick [] = Unit {0}
AreRows wires tick (row ∷ rest) =
    (length row.levels ≡ wires) × (tick ≤ row.tick) × (row.tick < 2 ^ 63) × AreRows wires row.tick rest

-- rows of times and levels that are written so are read back as they are
abbrev pub WrittenRowsAreRead : Type 0
WrittenRowsAreRead =
    (wires : ℕ) (rate : Option ℕ) (row : TableRow) (rows : List TableRow) → wires < 65536
    → AreRows wires (2 ^ 62) (row ∷ rows)
    → table_says (begun_table forms.Edges (numbers_from 1 wires) rate) (row_lines (row ∷ rows))
    ≡ Ok (events.Ticks NANOSECONDS ∷ rows_said (row ∷ rows))
