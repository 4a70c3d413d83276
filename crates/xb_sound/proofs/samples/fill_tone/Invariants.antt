use Rattle.std.proofs.Common.{◌≡◌, map, take, length}
use Rattle.std.specs.List.{range_with_len}
use Rattle.xb_sound.specs.Sines.{pair_sample}
use Rattle.xb_sound.proofs.samples.fill_tone.Given as goal

abbrev pub invariant-loop-n : goal.invariant-loop-n
invariant-loop-n l = record {
  written : take l.n l.room ≡ map (λ n. pair_sample l.tone n) (range_with_len 0 l.n);
  length : length l.room ≡ length l.initial.room;
}
