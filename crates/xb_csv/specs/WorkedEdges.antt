-- Lines of gpiomon, each with what it says, and the names of the wires that they write.
use Rattle.std.specs.Prelude.{◌≡◌, ◌+◌, ◌^◌, List, [], ◌∷◌, true, false, None, Ok, Err, codes, ℕ}
use Rattle.xb_contact.specs.declared.event.Event.TheVariants.{At, Edge, Ticks}
use Rattle.xb_contact.specs.declared.event.Refusal.TheVariants as refusals
use Rattle.xb_contact.specs.declared.level.Level.TheVariants.{Open, Closed}
use Rattle.xb_contact.specs.Times.{scale_by}
use Rattle.xb_csv.specs.Gpiomons.{GpiomonState, gpiomon_says, gpiomon_with, name_of_wire, names_wire}

-- what libgpiod 2 writes of line 17, by its chip, of which the line has the name `my line`
abbrev pub of_chip : List ℕ
of_chip = codes "gpiochip0 17 \"my line\""

pub record WiresAreNamed : Type 0 where
  pub number : names_wire (codes "17") (codes "gpiochip0 17") ≡ true
  pub number_of_named : names_wire (codes "17") of_chip ≡ true
  pub name_of_numbered : names_wire (codes "my line") of_chip ≡ true
  pub in_quotes : names_wire (codes "\"my line\"") of_chip ≡ true
  pub both : names_wire (codes "17 \"my line\"") of_chip ≡ true
  pub unquoted : names_wire (codes "my line") (codes "gpiochip0 17 my line") ≡ true
  pub name : names_wire (codes "my line") (codes "\"my line\"") ≡ true
  pub plain_name : names_wire (codes "my line") (codes "my line") ≡ true
  pub of_libgpiod_1 : names_wire (codes "17") (codes "17") ≡ true
  pub another_number : names_wire (codes "7") (codes "gpiochip0 17 \"GPIO7\"") ≡ false
  pub beginning : names_wire (codes "my") of_chip ≡ false
  pub half_a_name : names_wire (codes "line\"") (codes "\"my line\"") ≡ false
  pub chip : names_wire (codes "gpiochip0") of_chip ≡ false
  pub found : (text : List ℕ) → names_wire (name_of_wire text) text ≡ true
  pub found_number : name_of_wire of_chip ≡ codes "17"
  pub found_name : name_of_wire (codes "\"my line\"") ≡ codes "my line"
  pub found_unquoted : name_of_wire (codes "gpiochip0 my line") ≡ codes "my line"
  pub found_alone : name_of_wire (codes "17") ≡ codes "17"

-- the wires are 17 and LOOP
abbrev pub two_lines : GpiomonState
two_lines = gpiomon_with false (codes "17" ∷ codes "LOOP" ∷ []) None

pub record EdgesAreRead : Type 0 where
  pub of_libgpiod_1 :
      gpiomon_says two_lines
      (codes "event: FALLING EDGE offset: 17 timestamp: [     1.500000000]"
      ∷ codes "event:  RISING EDGE offset: 4 timestamp: [     1.600000000]" ∷ [] ∷ [])
      ≡ Ok (Ticks (scale_by 1 1000000) ∷ At (2 ^ 62 + 1500000000) ∷ Edge 0 Open ∷ At (2 ^ 62 + 1600000000) ∷ [])
  pub of_libgpiod_2 :
      gpiomon_says two_lines
      (codes "1.5\tfalling\tgpiochip0 17 \"GPIO17\"" ∷ codes "1.5  rising  gpiochip0 4 \"LOOP\"" ∷ [])
      ≡ Ok (Ticks (scale_by 1 1000000) ∷ At (2 ^ 62 + 1500000000) ∷ Edge 0 Open ∷ At (2 ^ 62 + 1500000000) ∷ Edge 1 Closed ∷ [])
  pub backwards :
      gpiomon_says two_lines (codes "1.5 rising gpiochip0 4" ∷ codes "1.4 falling gpiochip0 4" ∷ []) ≡ Err refusals.Backwards
  pub lost :
      gpiomon_says two_lines (codes "1.5 rising gpiochip0 17" ∷ codes "1.6 rising gpiochip0 17" ∷ []) ≡ Err refusals.LostEdge
  pub lost_and_allowed :
      gpiomon_says (record two_lines { lossy = true })
      (codes "1.5 rising gpiochip0 17" ∷ codes "1.6 rising gpiochip0 17" ∷ codes "1.7 falling gpiochip0 17" ∷ [])
      ≡ Ok (Ticks (scale_by 1 1000000) ∷ At (2 ^ 62 + 1500000000) ∷ Edge 0 Closed ∷ At (2 ^ 62 + 1600000000) ∷ Edge 0 Closed
      ∷ At (2 ^ 62 + 1700000000) ∷ Edge 0 Open ∷ [])
  pub lost_elsewhere :
      gpiomon_says two_lines (codes "1.5 rising gpiochip0 4" ∷ codes "1.6 rising gpiochip0 4" ∷ [])
      ≡ Ok (Ticks (scale_by 1 1000000) ∷ At (2 ^ 62 + 1500000000) ∷ At (2 ^ 62 + 1600000000) ∷ [])
  pub no_time : gpiomon_says two_lines (codes "12:00:00 rising gpiochip0 4" ∷ []) ≡ Err refusals.Time
  pub no_edge : gpiomon_says two_lines (codes "1.5 17" ∷ []) ≡ Err refusals.Edge
