-- Edges of gpiomon that are lost.
use Rattle.std.specs.Prelude.{◌≡◌, ◌≢◌, ℕ, List, [], ◌∷◌, Bool, true, false, Option, Some, None, Ok, Err, slice_get, if◌then◌else◌}
use Rattle.std.specs.List.{flat_map}
use Rattle.xb_contact.specs.declared.event.Event.{Event}
use Rattle.xb_contact.specs.declared.event.Refusal.{Refusal}
use Rattle.xb_contact.specs.declared.event.Refusal.TheVariants as refusals
use Rattle.xb_contact.specs.declared.level.Level.{Level}
use Rattle.xb_contact.specs.Repeats.{levels_of, repeats_in}
use Rattle.xb_csv.specs.Cells.{trimmed}
use Rattle.xb_csv.specs.Gpiomons.{EdgeSaid, edge_of, gpiomon_says, gpiomon_with, names_wire}

-- the level of the wire of a name after what a line says, if that is an edge of it
abbrev pub levels_by : List ℕ → Option EdgeSaid → List Level
levels_by name None = []
levels_by name (Some edge) = if names_wire name edge.wire then edge.level ∷ [] else []

-- those after its edges, line by line
abbrev pub edge_levels : List ℕ → List (List ℕ) → List Level
edge_levels name lines = flat_map (λ line. levels_by name (edge_of (trimmed line))) lines

-- one of its edges is lost wherever two of one direction follow each other
abbrev pub lost_edges : List ℕ → List (List ℕ) → ℕ
lost_edges name lines = repeats_in (edge_levels name lines)

-- what is said of the wires that are asked for are their edges, so each lost edge is a level that is said again; unless
-- edges may be lost none is, and what is read then is read the same where they may; there no edge is refused as lost
pub record LostEdgesAreSaid : Type 0 where
  pub levels :
      (lossy : Bool) (names lines : List (List ℕ)) (events : List Event) (wire : ℕ) (name : List ℕ)
      → gpiomon_says (gpiomon_with lossy names None) lines ≡ Ok events → slice_get names wire ≡ Some name
      → levels_of wire events ≡ edge_levels name lines
  pub none :
      (names lines : List (List ℕ)) (events : List Event) (wire : ℕ) (name : List ℕ)
      → gpiomon_says (gpiomon_with false names None) lines ≡ Ok events → slice_get names wire ≡ Some name
      → lost_edges name lines ≡ 0
  pub same :
      (names lines : List (List ℕ)) (events : List Event)
      → gpiomon_says (gpiomon_with false names None) lines ≡ Ok events
      → gpiomon_says (gpiomon_with true names None) lines ≡ Ok events
  pub never :
      (names lines : List (List ℕ)) (refusal : Refusal)
      → gpiomon_says (gpiomon_with true names None) lines ≡ Err refusal → refusal ≢ refusals.LostEdge
