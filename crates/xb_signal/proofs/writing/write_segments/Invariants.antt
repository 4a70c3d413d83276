use Rattle.std.proofs.Common.{◌≡◌, take}
use Rattle.std.specs.Io.KnownBytes.{Appends}
use Rattle.xb_signal.specs.Forms.{samples_coded}
use Rattle.xb_signal.specs.Moments.{start}
use Rattle.xb_signal.specs.Segments.{signal_of}
use Rattle.xb_signal.proofs.Parts.{moment_before}
use Rattle.xb_signal.proofs.writing.write_segments.Given as goal

abbrev pub invariant-loop-segment : goal.invariant-loop-segment
invariant-loop-segment g l = record {
  moment : l.moment ≡ moment_before (start l.setting.seed) (take l.segment-index l.segments);
  written :
      Appends (g.W.Write.contents l.initial.out) (g.W.Write.contents l.out)
      (samples_coded l.setting.form (signal_of l.setting (take l.segment-index l.segments)));
}
