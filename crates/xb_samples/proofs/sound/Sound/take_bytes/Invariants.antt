use Rattle.std.proofs.Common.{◌≡◌, ◌≤◌, ◌+◌, ◌++◌, drop}
use Rattle.xb_samples.specs.Pieces.{after_piece, piece_events}
use Rattle.xb_samples.specs.Sounds.{begun_after, samples_after, sound_reading, sound_state}
use Rattle.xb_samples.proofs.sound.Sound.take_bytes.Given as goal

abbrev pub invariant-loop-byte : goal.invariant-loop-byte
invariant-loop-byte l = record {
  events : l.events.items ++ piece_events sound_reading (sound_state l.self)
      (samples_after l.initial.self.coding l.self.begun.items (drop l.byte-index l.bytes))
      ≡ l.initial.events.items ++ piece_events sound_reading (sound_state l.initial.self)
      (samples_after l.initial.self.coding l.initial.self.begun.items l.bytes);
  state : after_piece sound_reading (sound_state l.self)
      (samples_after l.initial.self.coding l.self.begun.items (drop l.byte-index l.bytes))
      ≡ after_piece sound_reading (sound_state l.initial.self)
      (samples_after l.initial.self.coding l.initial.self.begun.items l.bytes);
  begun : begun_after l.initial.self.coding l.self.begun.items (drop l.byte-index l.bytes)
      ≡ begun_after l.initial.self.coding l.initial.self.begun.items l.bytes;
  left : l.self.left ≡ l.initial.self.left;
  tail : l.self.tail ≡ l.initial.self.tail;
  coding : l.self.coding ≡ l.initial.self.coding;
  count : l.self.count ≤ l.initial.self.count + l.byte-index;
}
