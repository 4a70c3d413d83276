use Rattle.std.proofs.Common.{◌≡◌, drop, map}
use Rattle.std.specs.List.{list_any}
use Rattle.xb_model.specs.Records.{Run}
use Rattle.xb_model.specs.Signals.{is_bad_run}
use Rattle.xb_heard.specs.PlacedRuns.{run_in}
use Rattle.xb_doubts.proofs.counted.is_whole.Given as goal

abbrev pub invariant-loop-run : goal.invariant-loop-run
invariant-loop-run l =
    list_any (λ (run : Run). is_bad_run l.limits run.contact run.ms) (map run_in (drop l.run-index l.digit.pulses.now))
    ≡ list_any (λ (run : Run). is_bad_run l.limits run.contact run.ms) (map run_in l.digit.pulses.now)
