use Rattle.std.proofs.Common.{◌≡◌, ◌*◌, ◌≤◌, length, take}
use Rattle.xb_sound.specs.Sounds.{sound_of}
use Rattle.xb_tone.proofs.entry.marks_ms.Given as goal

abbrev pub invariant-loop-mark : goal.invariant-loop-mark
invariant-loop-mark l = record {
  sum : l.ms * 8 ≡ length (sound_of l.cadence (take l.mark-index l.marks));
  bound : l.ms ≤ l.mark-index * 131070;
}
