use Rattle.std.proofs.Common.{◌≡◌, ℕ, List, ◌+◌, ◌≤◌, ◌++◌, drop}
use Rattle.xb_samples.specs.Pieces.{after_piece, piece_events}
use Rattle.xb_samples.specs.Samples.{bits_fault, bits_reading, bits_state}
use Rattle.xb_samples.proofs.bits.Bits.take_bytes.Given as goal

abbrev pub invariant-loop-byte : goal.invariant-loop-byte
invariant-loop-byte l = record {
  events : l.events.items ++ piece_events bits_reading (bits_state l.self) (drop l.byte-index l.bytes)
      ≡ l.initial.events.items ++ piece_events bits_reading (bits_state l.initial.self) l.bytes;
  state : after_piece bits_reading (bits_state l.self) (drop l.byte-index l.bytes)
      ≡ after_piece bits_reading (bits_state l.initial.self) l.bytes;
  count : l.self.count ≤ l.initial.self.count + l.byte-index;
  faults : (text : List ℕ) → bits_fault (bits_state l.self) (drop l.byte-index l.bytes ++ text)
      ≡ bits_fault (bits_state l.initial.self) (l.bytes ++ text);
}
