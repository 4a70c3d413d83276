use Rattle.std.proofs.Common.{◌≡◌, ◌*◌, ◌^◌, ◌≤◌, drop}
use Rattle.xb_heard.specs.Figures.{times_from, times_of}
use Rattle.xb_heard.proofs.figures.times_of.Given as goal

abbrev pub invariant-loop-run : goal.invariant-loop-run
invariant-loop-run l = record {
  rest : times_from l.times (drop l.run-index l.runs) ≡ times_of l.runs;
  breaks : l.times.breaks ≤ l.run-index;
  open_ms : l.times.open_ms ≤ l.run-index * 2 ^ 64;
  all_ms : l.times.all_ms ≤ l.run-index * 2 ^ 64;
}
