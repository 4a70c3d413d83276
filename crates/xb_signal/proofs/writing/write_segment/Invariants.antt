use Rattle.std.proofs.Common.{◌≤◌, ◌-◌}
use Rattle.std.specs.Io.KnownBytes.{Appends}
use Rattle.xb_signal.specs.OneSample.{sample_at}
use Rattle.xb_signal.proofs.Blocks.{bytes_from}
use Rattle.xb_signal.proofs.writing.write_segment.Given as goal

abbrev pub invariant-loop-from : goal.invariant-loop-from
invariant-loop-from g l = record {
  within : l.from ≤ l.samples;
  written :
      Appends (g.W.Write.contents l.initial.out) (g.W.Write.contents l.out)
      (bytes_from l.setting.form (sample_at l.setting l.moment l.segment.sound) 0 l.from);
}

abbrev pub decreases-loop-from : goal.decreases-loop-from
decreases-loop-from g l = l.samples - l.from
