use Rattle.std.proofs.Common.{◌≡◌, ◌^◌, ◌-◌, min, take}
use Rattle.xb_signal.specs.Segments.{samples_in}
use Rattle.xb_signal.proofs.writing.signal_length.Given as goal

abbrev pub invariant-loop-segment : goal.invariant-loop-segment
invariant-loop-segment l = l.samples ≡ min (samples_in (take l.segment-index l.segments)) (2 ^ 64 - 1)
