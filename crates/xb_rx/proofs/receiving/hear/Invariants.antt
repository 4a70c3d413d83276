use Rattle.std.proofs.Common.{◌≤◌, ◌+◌}
use Rattle.xb_rx.specs.declared.wav_start.TheConstants.{UNKNOWN_SAMPLES}
use Rattle.xb_clock.specs.Clocks.{Clock, IsClockSince}
use Rattle.xb_rx.specs.Hearing.{outputs}
use Rattle.xb_rx.specs.Timed.{timing_by, untimed}
use Rattle.xb_rx.specs.Reports.{IsReady, count_of, reported}
use Rattle.xb_rx.specs.Samples.{IsForm}
use Rattle.xb_rx.specs.Streams.{sound_left}
use Rattle.xb_rx.proofs.SoFar.{IsSoFar}
use Rattle.xb_rx.proofs.receiving.hear.Given as goal

abbrev pub invariant-loop-sample : goal.invariant-loop-sample
invariant-loop-sample g l = record {
  form : IsForm l.source.form;
  ready : IsReady (reported untimed l.report);
  few : count_of (reported untimed l.report) + l.source.said ≤ UNKNOWN_SAMPLES;
  fits : l.listener.meter.samples + l.source.said ≤ UNKNOWN_SAMPLES;
  so_far : (clock : Clock) → IsClockSince l.since clock → IsSoFar (reported (timing_by l.since clock) l.initial.report) (reported (timing_by l.since clock) l.report) l.listener (sound_left g.R.Read.remaining l.initial.source) (sound_left g.R.Read.remaining l.source) (outputs (g.W.Write.contents l.initial.out) (g.W.Write.contents l.out) (g.E.Write.contents l.initial.err) (g.E.Write.contents l.err));
}

abbrev pub decreases-loop-sample : goal.decreases-loop-sample
decreases-loop-sample g l = l.source.said
