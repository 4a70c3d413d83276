use Rattle.std.proofs.Common.{◌≡◌, drop}
use Rattle.xb_signal.specs.Segments.{all_fit}
use Rattle.xb_signal.proofs.sample_range.all_fit.Given as goal

abbrev pub invariant-loop-segment : goal.invariant-loop-segment
invariant-loop-segment l = all_fit l.setting l.segments ≡ all_fit l.setting (drop l.segment-index l.segments)
