use Rattle.std.proofs.Common.{◌≡◌, drop, map}
use Rattle.std.specs.List.{list_any}
use Rattle.xb_model.specs.Records.{is_make}
use Rattle.xb_heard.specs.PlacedRuns.{run_in}
use Rattle.xb_doubts.proofs.lines.has_make.Given as goal

abbrev pub invariant-loop-run : goal.invariant-loop-run
invariant-loop-run l =
    list_any is_make (map run_in (drop l.run-index l.runs)) ≡ list_any is_make (map run_in l.runs)
