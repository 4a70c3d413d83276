-- Raw samples, a byte for eight wires, or two for sixteen.
use Rattle.std.specs.Prelude.{◌≡◌, ◌≢◌, ◌⊎◌, ℕ, ◌+◌, ◌^◌, ◌≤◌, List, [], ◌∷◌, ◌++◌, Bool, false, Option, Some, None, Result, Ok, Err, bit_and, length, nat_eq, nat_lt, ◌==◌, if◌then◌else◌}
use Rattle.std.specs.Int.{from_le_bytes, w16}
use Rattle.std.specs.Option.{ok_or, option_and_then}
use Rattle.xb_contact.specs.declared.event.Event.{Event}
use Rattle.xb_contact.specs.declared.event.Event.TheVariants as events
use Rattle.xb_contact.specs.declared.event.Refusal.{Refusal}
use Rattle.xb_contact.specs.declared.event.Refusal.TheVariants as refusals
use Rattle.xb_contact.specs.Numbers.{number_of}
use Rattle.xb_contact.specs.Steps.{result_and_then, result_map}
use Rattle.xb_contact.specs.declared.level.Level.{Level}
use Rattle.xb_contact.specs.declared.level.Level.TheVariants.{Open, Closed}
use Rattle.xb_contact.specs.Times.{scale_by}
use Rattle.xb_samples.specs.declared.bits.Bits.{Bits}
use Rattle.xb_samples.specs.declared.bits.Width.{Width}
use Rattle.xb_samples.specs.declared.bits.Width.TheVariants as widths
use Rattle.xb_samples.specs.Pieces.{Reading, samples_events}
use Rattle.xb_samples.specs.Turns.{TurnsState, are_too_many, go_to_and_fro, new_turns, turns_after, turns_state, wires_alone}

-- a wire is a bit of a sample, which has eight of them, or sixteen
abbrev pub wires_in : Width → ℕ
wires_in widths.Eight = 8
wires_in widths.Sixteen = 16

abbrev pub mask_of : Width → List ℕ → Option ℕ
mask_of width name =
    option_and_then (λ bit. if nat_lt bit (wires_in width) then Some (2 ^ bit) else None) (number_of name)

-- those of names, from this wire on; the first name of none is told
abbrev pub masks_from : ℕ → Width → List (List ℕ) → Result (List ℕ) Refusal
masks_from wire width [] = Ok []
masks_from wire width (name ∷ names) =
    result_and_then (λ mask. result_map (λ rest. mask ∷ rest) (masks_from (wire + 1) width names))
    (ok_or (mask_of width name) (refusals.NoWire wire))

abbrev pub masks_of : Width → List (List ℕ) → Result (List ℕ) Refusal
masks_of width names = masks_from 0 width names

-- the levels of the wires in a sample
abbrev pub bit_level : ℕ → ℕ → Level
bit_level sample mask = if bit_and sample mask == 0 then Open else Closed

abbrev pub sample_levels : ℕ → List ℕ → ℕ → List Event
sample_levels wire [] sample = []
sample_levels wire (mask ∷ masks) sample =
    events.Level wire (bit_level sample mask) ∷ sample_levels (wire + 1) masks sample

-- the wires, the lower byte of a sample whose upper one has not come, the last sample, how many have come,
-- and how many in a row went back
pub record BitsState : Type 0 where
  pub width : Width
  pub masks : List ℕ
  pub lower : Option ℕ
  pub last : Option ℕ
  pub count : ℕ
  pub turns : TurnsState

abbrev pub bits_of : Width → List ℕ → Option ℕ → Option ℕ → ℕ → TurnsState → BitsState
bits_of width masks lower last count turns =
    record { width = width; masks = masks; lower = lower; last = last; count = count; turns = turns }

abbrev pub bits_state : Bits → BitsState
bits_state bits = bits_of bits.width bits.masks.items bits.lower bits.last bits.count (turns_state bits.turns)

-- nothing was taken of the wires of these names
abbrev pub new_bits : Width → List ℕ → BitsState
new_bits width masks = bits_of width masks None None 0 (new_turns masks)

abbrev pub IsNewBits : Width → List (List ℕ) → Bits → Type 0
IsNewBits width names bits = result_map (new_bits width) (masks_of width names) ≡ Ok (bits_state bits)

abbrev pub is_same : Option ℕ → ℕ → Bool
is_same None sample = false
is_same (Some last) sample = nat_eq last sample

-- each sample is a tick: one that differs from that before says its levels
abbrev pub sample_events : BitsState → ℕ → List Event
sample_events state sample =
    if is_same state.last sample then [] else events.At state.count ∷ sample_levels 0 state.masks sample

abbrev pub after_sample : BitsState → ℕ → BitsState
after_sample state sample =
    bits_of state.width state.masks None (Some sample) (state.count + 1) (turns_after state.turns sample)

-- the sample that a byte completes: of sixteen wires the lower byte comes first
abbrev pub sample_with : Width → Option ℕ → ℕ → Option ℕ
sample_with widths.Eight lower byte = Some byte
sample_with widths.Sixteen None byte = None
sample_with widths.Sixteen (Some lower) byte = Some (from_le_bytes w16 (lower ∷ byte ∷ []))

-- what is said and known with it, or with a lower byte
abbrev pub events_by : BitsState → Option ℕ → List Event
events_by state None = []
events_by state (Some sample) = sample_events state sample

abbrev pub state_by : BitsState → ℕ → Option ℕ → BitsState
state_by state byte None = bits_of state.width state.masks (Some byte) state.last state.count state.turns
state_by state byte (Some sample) = after_sample state sample

abbrev pub bits_reading : Reading BitsState ℕ
bits_reading = record {
  says = λ state byte. events_by state (sample_with state.width state.lower byte);
  next = λ state byte. state_by state byte (sample_with state.width state.lower byte);
  now = λ state. state.count;
  rests = λ state. [];
}

-- how long a tick is where a second has so many samples
abbrev pub rate_says : Option ℕ → Result (List Event) Refusal
rate_says None = Err refusals.NoRate
rate_says (Some rate) = if rate == 0 then Err refusals.NoRate else Ok (events.Ticks (scale_by 1000 rate) ∷ [])

-- samples of sixteen wires that are read as samples of eight: the wires that are asked for go to and fro, as
-- in each second byte they are others
abbrev pub are_of_two : Width → List ℕ → List ℕ → Bool
are_of_two widths.Eight masks bytes = go_to_and_fro (wires_alone masks bytes)
are_of_two widths.Sixteen masks bytes = false

-- the same, byte by byte
abbrev pub is_of_two_by : Width → TurnsState → Bool
is_of_two_by widths.Eight turns = are_too_many turns
is_of_two_by widths.Sixteen turns = false

abbrev pub is_of_two_with : BitsState → ℕ → Bool
is_of_two_with state byte = is_of_two_by state.width (turns_after state.turns byte)

abbrev pub bits_fault : BitsState → List ℕ → Option Refusal
bits_fault state [] = None
bits_fault state (byte ∷ rest) =
    if is_of_two_with state byte then Some refusals.TwoBytes else bits_fault (bits_reading.next state byte) rest

-- further bytes were refused, unless memory ran out: so many samples more cannot be counted below 2^64, or whatever
-- follows, this is wrong
abbrev pub RefusesBits : BitsState → List ℕ → Refusal → Type 0
RefusesBits state bytes refusal =
    refusal ≢ refusals.NoMemory
    → ((refusal ≡ refusals.TooLate) × (2 ^ 64 ≤ state.count + length bytes))
    ⊎ ((text : List ℕ) → bits_fault state (bytes ++ text) ≡ Some refusal)

-- all bytes, unless they are of two a sample
abbrev pub wires_say_bits : Width → List ℕ → List Event → List ℕ → Result (List Event) Refusal
wires_say_bits width masks said bytes =
    if are_of_two width masks bytes then Err refusals.TwoBytes
    else Ok (said ++ samples_events bits_reading (new_bits width masks) bytes)

abbrev pub bits_say : Width → List (List ℕ) → Option ℕ → List ℕ → Result (List Event) Refusal
bits_say width names rate bytes =
    result_and_then
    (λ masks. result_and_then (λ said. wires_say_bits width masks said bytes) (rate_says rate))
    (masks_of width names)
