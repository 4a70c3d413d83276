-- Lines stay where they are as a recording comes, whatever follows their contacts.
use Rattle.std.proofs.Common.{◌≡◌, ℕ, zero, suc, List, [], ◌∷◌, false, Option, Some, None, map, refl, ap, subst, sym, ◌∙◌, ◌==◌}
use Rattle.std.specs.Prelude.{slice_get, slice_set}
use Rattle.std.specs.List.{AllByRecursion}
use Rattle.std.specs.Option.{option_map_or}
use Rattle.xb_contact.specs.declared.level.Level.{Level}
use Rattle.xb_contact.specs.declared.scale.Scale.{Scale}
use Rattle.xb_feed.specs.declared.line.Line.{Line}
use Rattle.xb_feed.specs.Followers.{Follower}
use Rattle.xb_feed.specs.Watching.{all_held, line_changed, line_edged, wire_changed, wire_edged}
use Rattle.xb_loop.proofs.WireRows.{set-here, set-there}

abbrev pub numbers_of : {C : Type 0} → List (Line C) → List ℕ
numbers_of {C} lines = map (λ (line : Line C). line.number) lines

-- what holds of all lines holds of one
pub one-of-all :
    {C : Type 0} (P : Line C → Type 0) (lines : List (Line C)) (wire : ℕ) (line : Line C)
    → slice_get lines wire ≡ Some line → AllByRecursion P lines → P line
one-of-all P [] wire line at all = cc
one-of-all P (first ∷ rest) zero line at all =
    let is : first ≡ line = cc in subst P is all.0
one-of-all P (first ∷ rest) (suc wire) line at all = one-of-all P rest wire line at all.1

set-numbers :
    {C : Type 0} (lines : List (Line C)) (wire : ℕ) (watched line : Line C) → slice_get lines wire ≡ Some line
    → watched.number ≡ line.number → numbers_of (slice_set lines wire watched) ≡ numbers_of lines
set-numbers [] wire watched line at same = cc
set-numbers {C} (first ∷ rest) zero watched line at same =
    let is : first ≡ line = cc in
    ap (λ n. n ∷ numbers_of rest) (same ∙ ap (λ (w : Line C). w.number) (sym is))
set-numbers (first ∷ rest) (suc wire) watched line at same =
    ap (λ numbers. first.number ∷ numbers) (set-numbers rest wire watched line at same)

module _ {C G : Type 0} (f : Follower C G) where
  pub numbers-held : (tick : ℕ) (lines : List (Line C)) → numbers_of (all_held f tick lines) ≡ numbers_of lines
  numbers-held tick [] = refl
  numbers-held tick (line ∷ rest) = ap (λ numbers. line.number ∷ numbers) (numbers-held tick rest)

  -- the line of one wire changes, and keeps its number
  module _ (after : Line C → Line C) (same : (line : Line C) → (after line).number ≡ line.number) where
    abbrev lines-after : ℕ → List (Line C) → Option (Line C) → List (Line C)
    lines-after other lines found = option_map_or (λ line. slice_set lines other (after line)) found lines

    numbers-by :
        (other : ℕ) (lines : List (Line C)) (found : Option (Line C))
        → slice_get lines other ≡ found → numbers_of (lines-after other lines found) ≡ numbers_of lines
    numbers-by other lines None at = refl
    numbers-by other lines (Some line) at = set-numbers lines other (after line) line at (same line)

    here-by :
        (wire : ℕ) (lines : List (Line C)) (line : Line C) → slice_get lines wire ≡ Some line
        → slice_get (lines-after wire lines (slice_get lines wire)) wire ≡ Some (after line)
    here-by wire lines line at =
        ap (λ found. slice_get (lines-after wire lines found) wire) at ∙ set-here lines wire (after line) line at

    there-by :
        (other wire : ℕ) (lines : List (Line C)) (found : Option (Line C)) → (other == wire) ≡ false
        → slice_get (lines-after other lines found) wire ≡ slice_get lines wire
    there-by other wire lines None ne = refl
    there-by other wire lines (Some line) ne = set-there lines other wire (after line) ne

  -- a wire has a level
  pub numbers-changed :
      (common : G) (scale : Scale) (now : ℕ) (level : Level) (other : ℕ) (lines : List (Line C))
      → numbers_of (wire_changed f common scale now level other lines) ≡ numbers_of lines
  numbers-changed common scale now level other lines =
      numbers-by (line_changed f common scale now level) (λ line. refl) other lines (slice_get lines other) refl

  pub changed-here :
      (common : G) (scale : Scale) (now : ℕ) (level : Level) (wire : ℕ) (lines : List (Line C)) (line : Line C)
      → slice_get lines wire ≡ Some line
      → slice_get (wire_changed f common scale now level wire lines) wire ≡ Some (line_changed f common scale now level line)
  changed-here common scale now level wire lines line at =
      here-by (line_changed f common scale now level) (λ line. refl) wire lines line at

  pub changed-there :
      (common : G) (scale : Scale) (now : ℕ) (level : Level) (other wire : ℕ) (lines : List (Line C))
      → (other == wire) ≡ false
      → slice_get (wire_changed f common scale now level other lines) wire ≡ slice_get lines wire
  changed-there common scale now level other wire lines ne =
      there-by (line_changed f common scale now level) (λ line. refl) other wire lines (slice_get lines other) ne

  -- a wire has an edge
  pub numbers-edged :
      (common : G) (scale : Scale) (first now : ℕ) (level : Level) (other : ℕ) (lines : List (Line C))
      → numbers_of (wire_edged f common scale first now level other lines) ≡ numbers_of lines
  numbers-edged common scale first now level other lines =
      numbers-by (line_edged f common scale first now level) (λ line. refl) other lines (slice_get lines other) refl

  pub edged-here :
      (common : G) (scale : Scale) (first now : ℕ) (level : Level) (wire : ℕ) (lines : List (Line C)) (line : Line C)
      → slice_get lines wire ≡ Some line
      → slice_get (wire_edged f common scale first now level wire lines) wire
      ≡ Some (line_edged f common scale first now level line)
  edged-here common scale first now level wire lines line at =
      here-by (line_edged f common scale first now level) (λ line. refl) wire lines line at

  pub edged-there :
      (common : G) (scale : Scale) (first now : ℕ) (level : Level) (other wire : ℕ) (lines : List (Line C))
      → (other == wire) ≡ false
      → slice_get (wire_edged f common scale first now level other lines) wire ≡ slice_get lines wire
  edged-there common scale first now level other wire lines ne =
      there-by (line_edged f common scale first now level) (λ line. refl) other wire lines (slice_get lines other) ne
