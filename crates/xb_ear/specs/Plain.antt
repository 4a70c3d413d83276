-- What a receiver knows, by its parts.
use Rattle.std.specs.Prelude.{take}
use Rattle.xb_ear.specs.declared.ear_parts.PlainEar.{PlainEar}
use Rattle.xb_ear.specs.Receivers.{Receiving}

abbrev pub receiving_in : PlainEar → Receiving
receiving_in plain = record {
  recent = take plain.filled plain.window;
  held = plain.held;
  least = plain.least;
  hearing = plain.hearing;
}
