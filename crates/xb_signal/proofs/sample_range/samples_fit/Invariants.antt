use Rattle.std.proofs.Common.{◌≡◌, ◌*◌, ◌-◌}
use Rattle.std.specs.List.{list_all, range_with_len}
use Rattle.xb_signal.specs.Segments.{samples_fit}
use Rattle.xb_signal.specs.OneSample.{clean_sample, has_room, peak_of}
use Rattle.xb_signal.proofs.sample_range.samples_fit.Given as goal

abbrev pub invariant-loop-n : goal.invariant-loop-n
invariant-loop-n l =
    samples_fit l.setting l.sound l.ms
    ≡ list_all (λ n. has_room (peak_of l.setting) (clean_sample l.setting 0 l.sound n))
    (range_with_len l.n (l.ms * 8 - l.n))
