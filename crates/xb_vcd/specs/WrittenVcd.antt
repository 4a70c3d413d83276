-- A VCD as it is written.
use Rattle.std.specs.Prelude.{◌≡◌, ℕ, ◌+◌, ◌<◌, ◌≤◌, ◌^◌, List, [], ◌∷◌, ◌++◌, Ok, codes, decimal, length}
use Rattle.xb_contact.specs.declared.event.Event.{Event}
use Rattle.xb_contact.specs.declared.event.Event.TheVariants as events
use Rattle.xb_contact.specs.declared.level.Level.{Level}
use Rattle.xb_contact.specs.declared.level.Level.TheVariants.{Open, Closed}
use Rattle.xb_contact.specs.Changes.{AreInOrder, AreNames, Change, change_events}
use Rattle.xb_contact.specs.Times.{scale_by}
use Rattle.xb_vcd.specs.VcdTexts.{begun_vcd, vcd_says}

-- the code of a wire: a printable byte, from `!` on
abbrev pub wire_code : ℕ → List ℕ
wire_code wire = (33 + wire) ∷ []

-- the declarations of wires of one bit
abbrev pub var_line : ℕ → List ℕ → List ℕ
var_line wire name = codes "$var wire 1 " ++ wire_code wire ++ codes " " ++ name ++ codes " $end"

abbrev pub var_lines : ℕ → List (List ℕ) → List (List ℕ)
var_lines wire [] = []
var_lines wire (name ∷ rest) = var_line wire name ∷ var_lines (wire + 1) rest

-- a time, and a level before the code of its wire
abbrev pub time_line : ℕ → List ℕ
time_line tick = codes "#" ++ decimal tick

abbrev pub level_text : Level → List ℕ
level_text Open = codes "0"
level_text Closed = codes "1"

abbrev pub change_lines : List Change → List (List ℕ)
change_lines [] = []
change_lines (change ∷ rest) =
    time_line change.tick ∷ (level_text change.level ++ wire_code change.wire) ∷ change_lines rest

-- ticks of 1 us, the names of the wires, what changes, and up to when
abbrev pub vcd_lines : List (List ℕ) → List Change → ℕ → List (List ℕ)
vcd_lines names changes end =
    codes "$timescale 1 us $end"
    ∷ (var_lines 0 names ++ (codes "$enddefinitions $end" ∷ (change_lines changes ++ time_line end ∷ [])))

abbrev pub vcd_events : List Change → ℕ → List Event
vcd_events changes end = events.Ticks (scale_by 1 1000) ∷ (change_events changes ++ events.At end ∷ [])

-- what up to 94 wires do, written so, is read back as it is
abbrev pub WrittenIsRead : Type 0
WrittenIsRead =
    (names : List (List ℕ)) (changes : List Change) (end : ℕ) → AreNames names → length names ≤ 94
    → AreInOrder (length names) 0 changes end → end < 2 ^ 64
    → vcd_says (begun_vcd names) (vcd_lines names changes end) ≡ Ok (vcd_events changes end)
