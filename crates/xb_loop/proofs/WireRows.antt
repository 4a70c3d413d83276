-- The rows of one line, of those of all.
use Rattle.std.proofs.Common.{◌≡◌, ℕ, zero, suc, List, [], ◌∷◌, ◌++◌, false, Option, Some, None, map, refl, ap, sym, ◌∙◌, ◌==◌, cond, arith, append-nil}
use Rattle.std.specs.Prelude.{option_map, slice_get, slice_set}
use Rattle.std.specs.Option.{option_map_or}
use Rattle.std.specs.List.{flat_map}
use Rattle.std.proofs.lemmas.Bool.{eqb-false, ne_eqb}
use Rattle.std.proofs.lemmas.Grind.{flat_map-append}
use Rattle.std.proofs.lemmas.List.{map-append}
use Rattle.std.proofs.lemmas.List.Elements.{filter-append}
use Rattle.std.proofs.lemmas.Option.{slice_get-map}
use Rattle.xb_model.specs.Lines.{row_line}
use Rattle.xb_model.specs.Records.{rows_of}
use Rattle.xb_model.specs.Rows.{LoopRow}
use Rattle.xb_model.proofs.Lines.{of_line-all}
use Rattle.xb_contact.specs.declared.hold.Hold.{Hold}
use Rattle.xb_contact.specs.declared.level.Level.{Level}
use Rattle.xb_contact.specs.declared.scale.Scale.{Scale}
use Rattle.xb_contact.specs.Holds.{other_level}
use Rattle.xb_feed.specs.Watching.{contact_before, edge_told, level_seen, line_edge_told, line_edged}
use Rattle.xb_loop.specs.declared.common.Common.{Common}
use Rattle.xb_loop.specs.Contacts.{Followed, given_until, left_at_end}
use Rattle.xb_loop.specs.RowsOfHolds.{day_parts, row_of_hold, rows_of_holds, written_rows}
use Rattle.xb_loop.specs.Watching.{Watched, all_held, by_rows, contact_left, contact_rows, line_changed, line_left, line_rows, wire_changed, wire_edge_rows, wire_edged}
use Rattle.xb_loop.specs.WireRecords.{IsAlone}
use Rattle.xb_loop.proofs.KeptTapes.{rows_own}

-- rows of another line are none of this one
rows_other :
    (line other : ℕ) (holds : List Hold) → (other == line) ≡ false → rows_of line (rows_of_holds other holds) ≡ []
rows_other line other [] ne = refl
rows_other line other (h ∷ hs) ne =
    ap (λ b. cond b (row_of_hold other h ∷ rows_of line (rows_of_holds other hs)) (rows_of line (rows_of_holds other hs))) ne
    ∙ rows_other line other hs ne

pub own_rows : (line : ℕ) (holds : List Hold) → rows_of line (written_rows line holds) ≡ written_rows line holds
own_rows line holds =
    of_line-all row_line line (written_rows line holds) (rows_own line (flat_map day_parts holds))

pub rows_of-append : (line : ℕ) (rows more : List LoopRow) → rows_of line (rows ++ more) ≡ rows_of line rows ++ rows_of line more
rows_of-append line rows more = filter-append (λ row. row_line row == line) rows more

pub written-append :
    (line : ℕ) (holds more : List Hold) → written_rows line (holds ++ more) ≡ written_rows line holds ++ written_rows line more
written-append line holds more =
    ap (rows_of_holds line) (flat_map-append day_parts holds more)
    ∙ map-append (row_of_hold line) (flat_map day_parts holds) (flat_map day_parts more)

-- the rows that each line gives by itself
pub record GivesOwn (gives : Watched → List LoopRow) : Type 0 where
  pub own : (line : ℕ) (watched : Watched) → watched.number ≡ line → rows_of line (gives watched) ≡ gives watched
  pub other : (line : ℕ) (watched : Watched) → (watched.number == line) ≡ false → rows_of line (gives watched) ≡ []

abbrev pub numbers_of : List Watched → List ℕ
numbers_of lines = map (λ (line : Watched). line.number) lines

none_given :
    (gives : Watched → List LoopRow) → GivesOwn gives → (line : ℕ) (lines : List Watched)
    → ((other : ℕ) → slice_get (numbers_of lines) other ≡ Some line → ⊥) → rows_of line (flat_map gives lines) ≡ []
none_given gives own line [] none = refl
none_given gives own line (first ∷ rest) none =
    let ne : (first.number == line) ≡ false = ne_eqb first.number line (λ e. none 0 (ap (λ n. Some n) e)) in
    rows_of-append line (gives first) (flat_map gives rest)
    ∙ ap (λ rows. rows ++ rows_of line (flat_map gives rest)) (own.other line first ne)
    ∙ none_given gives own line rest (λ other e. none (suc other) e)

pub one_given :
    (gives : Watched → List LoopRow) → GivesOwn gives → (line : ℕ) (lines : List Watched) (wire : ℕ) (watched : Watched)
    → slice_get lines wire ≡ Some watched → watched.number ≡ line → IsAlone wire line (numbers_of lines)
    → rows_of line (flat_map gives lines) ≡ gives watched
one_given gives own line [] wire watched at number alone = cc
one_given gives own line (first ∷ rest) zero watched at number alone =
    let is : first ≡ watched = cc in
    let none : (other : ℕ) → slice_get (numbers_of rest) other ≡ Some line → ⊥ =
    λ other e. let h : suc other ≡ 0 = alone (suc other) e in omega (arith, h) in
    rows_of-append line (gives first) (flat_map gives rest)
    ∙ ap (λ rows. rows_of line (gives first) ++ rows) (none_given gives own line rest none)
    ∙ append-nil (rows_of line (gives first))
    ∙ own.own line first (ap (λ w. w.number) is ∙ number)
    ∙ ap gives is
one_given gives own line (first ∷ rest) (suc wire) watched at number alone =
    let ne : (first.number == line) ≡ false =
    ne_eqb first.number line (λ e. let h : 0 ≡ suc wire = alone 0 (ap (λ n. Some n) e) in omega (arith, h)) in
    let later : IsAlone wire line (numbers_of rest) =
    λ other e. let h : suc other ≡ suc wire = alone (suc other) e in omega (arith, h) in
    rows_of-append line (gives first) (flat_map gives rest)
    ∙ ap (λ rows. rows ++ rows_of line (flat_map gives rest)) (own.other line first ne)
    ∙ one_given gives own line rest wire watched at number later

-- lines give such rows up to a tick, and at the end
contact_rows_own :
    (tick line : ℕ) (contact : Option Followed) → rows_of line (contact_rows tick line contact) ≡ contact_rows tick line contact
contact_rows_own tick line None = refl
contact_rows_own tick line (Some contact) = own_rows line (given_until contact tick)

contact_rows_other :
    (tick line other : ℕ) (contact : Option Followed) → (other == line) ≡ false
    → rows_of line (contact_rows tick other contact) ≡ []
contact_rows_other tick line other None ne = refl
contact_rows_other tick line other (Some contact) ne = rows_other line other (flat_map day_parts (given_until contact tick)) ne

contact_left_own :
    (line : ℕ) (contact : Option Followed) → rows_of line (contact_left line contact) ≡ contact_left line contact
contact_left_own line None = refl
contact_left_own line (Some contact) = own_rows line (left_at_end contact)

contact_left_other :
    (line other : ℕ) (contact : Option Followed) → (other == line) ≡ false → rows_of line (contact_left other contact) ≡ []
contact_left_other line other None ne = refl
contact_left_other line other (Some contact) ne = rows_other line other (flat_map day_parts (left_at_end contact)) ne

pub rows_until-own : (tick : ℕ) → GivesOwn (line_rows tick)
rows_until-own tick = record {
  own = λ line watched e.
      ap (λ n. rows_of n (line_rows tick watched)) (sym e) ∙ contact_rows_own tick watched.number watched.contact;
  other = λ line watched ne. contact_rows_other tick line watched.number watched.contact ne;
}

pub left-own : GivesOwn line_left
left-own = record {
  own = λ line watched e.
      ap (λ n. rows_of n (line_left watched)) (sym e) ∙ contact_left_own watched.number watched.contact;
  other = λ line watched ne. contact_left_other line watched.number watched.contact ne;
}

-- lines stay where they are
pub numbers-held : (tick : ℕ) (lines : List Watched) → numbers_of (all_held tick lines) ≡ numbers_of lines
numbers-held tick [] = refl
numbers-held tick (line ∷ rest) = ap (λ numbers. line.number ∷ numbers) (numbers-held tick rest)

numbers-set :
    (lines : List Watched) (wire : ℕ) (watched line : Watched) → slice_get lines wire ≡ Some line
    → watched.number ≡ line.number → numbers_of (slice_set lines wire watched) ≡ numbers_of lines
numbers-set [] wire watched line at same = cc
numbers-set (first ∷ rest) zero watched line at same =
    let is : first ≡ line = cc in
    ap (λ n. n ∷ numbers_of rest) (same ∙ ap (λ w. w.number) (sym is))
numbers-set (first ∷ rest) (suc wire) watched line at same =
    ap (λ numbers. first.number ∷ numbers) (numbers-set rest wire watched line at same)

pub set-here :
    {A : Type 0} (lines : List A) (wire : ℕ) (watched line : A) → slice_get lines wire ≡ Some line
    → slice_get (slice_set lines wire watched) wire ≡ Some watched
set-here [] wire watched line at = cc
set-here (first ∷ rest) zero watched line at = refl
set-here (first ∷ rest) (suc wire) watched line at = set-here rest wire watched line at

pub set-there :
    {A : Type 0} (lines : List A) (other wire : ℕ) (watched : A) → (other == wire) ≡ false
    → slice_get (slice_set lines other watched) wire ≡ slice_get lines wire
set-there [] other wire watched ne = refl
set-there (first ∷ rest) zero zero watched ne = cc
set-there (first ∷ rest) zero (suc wire) watched ne = refl
set-there (first ∷ rest) (suc other) zero watched ne = refl
set-there (first ∷ rest) (suc other) (suc wire) watched ne =
    set-there rest other wire watched (ne_eqb other wire (λ e. eqb-false (suc other) (suc wire) ne (ap suc e)))

-- the line of one wire changes, and keeps its number
module _ (after : Watched → Watched) (same : (line : Watched) → (after line).number ≡ line.number) where
  abbrev lines_after : ℕ → List Watched → Option Watched → List Watched
  lines_after other lines found = option_map_or (λ line. slice_set lines other (after line)) found lines

  numbers-by :
      (other : ℕ) (lines : List Watched) (found : Option Watched) → slice_get lines other ≡ found
      → numbers_of (lines_after other lines found) ≡ numbers_of lines
  numbers-by other lines None at = refl
  numbers-by other lines (Some line) at = numbers-set lines other (after line) line at (same line)

  here-by :
      (wire : ℕ) (lines : List Watched) (line : Watched) → slice_get lines wire ≡ Some line
      → slice_get (lines_after wire lines (slice_get lines wire)) wire ≡ Some (after line)
  here-by wire lines line at =
      ap (λ found. slice_get (lines_after wire lines found) wire) at ∙ set-here lines wire (after line) line at

  there-by :
      (other wire : ℕ) (lines : List Watched) (found : Option Watched) → (other == wire) ≡ false
      → slice_get (lines_after other lines found) wire ≡ slice_get lines wire
  there-by other wire lines None ne = refl
  there-by other wire lines (Some line) ne = set-there lines other wire (after line) ne

-- a wire has a level
pub numbers-changed :
    (common : Common) (scale : Scale) (now : ℕ) (level : Level) (other : ℕ) (lines : List Watched)
    → numbers_of (wire_changed common scale now level other lines) ≡ numbers_of lines
numbers-changed common scale now level other lines =
    numbers-by (line_changed common scale now level) (λ line. refl) other lines (slice_get lines other) refl

pub changed-here :
    (common : Common) (scale : Scale) (now : ℕ) (level : Level) (wire : ℕ) (lines : List Watched) (line : Watched)
    → slice_get lines wire ≡ Some line
    → slice_get (wire_changed common scale now level wire lines) wire ≡ Some (line_changed common scale now level line)
changed-here common scale now level wire lines line at =
    here-by (line_changed common scale now level) (λ line. refl) wire lines line at

pub changed-there :
    (common : Common) (scale : Scale) (now : ℕ) (level : Level) (other wire : ℕ) (lines : List Watched)
    → (other == wire) ≡ false
    → slice_get (wire_changed common scale now level other lines) wire ≡ slice_get lines wire
changed-there common scale now level other wire lines ne =
    there-by (line_changed common scale now level) (λ line. refl) other wire lines (slice_get lines other) ne

-- a wire has an edge
pub numbers-edged :
    (common : Common) (scale : Scale) (first now : ℕ) (level : Level) (other : ℕ) (lines : List Watched)
    → numbers_of (wire_edged common scale first now level other lines) ≡ numbers_of lines
numbers-edged common scale first now level other lines =
    numbers-by (line_edged by_rows common scale first now level) (λ line. refl) other lines (slice_get lines other) refl

pub edged-here :
    (common : Common) (scale : Scale) (first now : ℕ) (level : Level) (wire : ℕ) (lines : List Watched) (line : Watched)
    → slice_get lines wire ≡ Some line
    → slice_get (wire_edged common scale first now level wire lines) wire
    ≡ Some (line_edged by_rows common scale first now level line)
edged-here common scale first now level wire lines line at =
    here-by (line_edged by_rows common scale first now level) (λ line. refl) wire lines line at

pub edged-there :
    (common : Common) (scale : Scale) (first now : ℕ) (level : Level) (other wire : ℕ) (lines : List Watched)
    → (other == wire) ≡ false
    → slice_get (wire_edged common scale first now level other lines) wire ≡ slice_get lines wire
edged-there common scale first now level other wire lines ne =
    there-by (line_edged by_rows common scale first now level) (λ line. refl) other wire lines (slice_get lines other) ne

-- what is told with an edge of another wire is nothing of a line that has one wire
edge-told-other :
    (common : Common) (scale : Scale) (first now line : ℕ) (level : Level) (watched : Watched)
    → (watched.number == line) ≡ false
    → rows_of line (line_edge_told by_rows common scale first now level watched) ≡ []
edge-told-other common scale first now line level watched apart = by watched.contact
  where
    seen : Level
    seen = level_seen watched.manner.inverted level

    before : Followed
    before = contact_before by_rows watched.manner common scale first now (other_level seen)

    by :
        (contact : Option Followed)
        → rows_of line (edge_told by_rows watched.number watched.manner common scale first now seen contact) ≡ []
    by None = rows_other line watched.number (flat_map day_parts (given_until before now)) apart
    by (Some contact) = refl

pub edge-rows-other :
    (common : Common) (scale : Scale) (first now : ℕ) (level : Level) (other wire line : ℕ) (lines : List Watched)
    → (other == wire) ≡ false → IsAlone wire line (numbers_of lines)
    → rows_of line (wire_edge_rows common scale first now level other lines) ≡ []
edge-rows-other common scale first now level other wire line lines ne alone = by (slice_get lines other) refl
  where
    by :
        (found : Option Watched) → slice_get lines other ≡ found
        → rows_of line (option_map_or (line_edge_told by_rows common scale first now level) found []) ≡ []
    by None at = refl
    by (Some watched) at =
        let number : slice_get (numbers_of lines) other ≡ Some watched.number =
        slice_get-map (λ (l : Watched). l.number) lines other ∙ ap (option_map (λ (l : Watched). l.number)) at in
        edge-told-other common scale first now line level watched
        (ne_eqb watched.number line (λ same. eqb-false other wire ne (alone other (number ∙ ap (λ n. Some n) same))))
