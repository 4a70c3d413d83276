use Rattle.std.proofs.Common.{◌≡◌, ◌++◌, map}
use Rattle.std.specs.List.{range_with_len}
use Rattle.xb_sound.specs.Sines.{pair_sample}
use Rattle.xb_sound.proofs.samples.push_tone.Given as goal

abbrev pub invariant-loop-n : goal.invariant-loop-n
invariant-loop-n l =
    l.samples.items ≡ l.initial.samples.items ++ map (λ n. pair_sample l.tone n) (range_with_len 0 l.n)
