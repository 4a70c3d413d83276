-- Recordings as they are written.
use Rattle.std.specs.Prelude.{◌≡◌, ℕ, ◌<◌, ◌≤◌, ◌^◌, List, [], ◌∷◌, ◌++◌, length, true}
use Rattle.xb_contact.specs.declared.event.Event.TheVariants as events
use Rattle.xb_contact.specs.declared.scale.TheConstants.{NANOSECONDS}
use Rattle.xb_contact.specs.Changes.{AreInOrder, AreNames, Change}
use Rattle.xb_csv.specs.Written.{AreRows, TableRow, are_edges, edge_events, edge_lines, numbers_from, row_lines, rows_said}
use Rattle.xb_vcd.specs.WrittenVcd.{vcd_events, vcd_lines}
use Rattle.xb_recording.specs.declared.format.Format.TheVariants as formats
use Rattle.xb_recording.specs.declared.wanted.Wanted.{Wanted}
use Rattle.xb_recording.specs.Says.{Says, names_in}

-- each line ends with LF
abbrev pub text_of : List (List ℕ) → List ℕ
text_of [] = []
text_of (line ∷ rest) = line ++ 10 ∷ text_of rest

-- what the wires that are wanted do, written as a VCD, as edges of gpiomon, or as rows of a table, is what the text says
pub record WrittenIsRead (wanted : Wanted) : Type 0 where
  pub vcd :
      (changes : List Change) (end : ℕ) → AreNames (names_in wanted) → length (names_in wanted) ≤ 94
      → AreInOrder (length (names_in wanted)) 0 changes end → end < 2 ^ 64
      → Says formats.Vcd wanted (text_of (vcd_lines (names_in wanted) changes end)) (vcd_events changes end)
  pub gpiomon :
      (edges : List Change) (end : ℕ) → AreNames (names_in wanted) → are_edges edges ≡ true
      → AreInOrder (length (names_in wanted)) (2 ^ 62) edges end → end < 2 ^ 63
      → Says formats.Gpiomon wanted (text_of (edge_lines (names_in wanted) edges)) (edge_events edges)
  pub rows :
      (wires : ℕ) (row : TableRow) (rows : List TableRow) → names_in wanted ≡ numbers_from 1 wires → wires < 65536
      → AreRows wires (2 ^ 62) (row ∷ rows)
      → Says formats.Edges wanted (text_of (row_lines (row ∷ rows))) (events.Ticks NANOSECONDS ∷ rows_said (row ∷ rows))
