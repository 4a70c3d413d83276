use Rattle.std.proofs.Common.{◌≡◌, drop, None}
use Rattle.xb_heard.specs.Figures.{extent_from}
use Rattle.xb_heard.proofs.figures.extent_of.Given as goal

abbrev pub invariant-loop-run : goal.invariant-loop-run
invariant-loop-run l =
    extent_from l.contact l.extent (drop l.run-index l.train) ≡ extent_from l.contact None l.train
