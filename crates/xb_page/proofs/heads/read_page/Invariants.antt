use Rattle.std.proofs.Common.{◌≤◌, ◌<◌, ◌+◌, ◌-◌, length}
use Rattle.xb_model.specs.declared.line.TheConstants.{LINES}
use Rattle.xb_page.proofs.SheetSteps.{IsRestRead}
use Rattle.xb_page.proofs.heads.read_page.Given as goal

abbrev pub invariant-loop-length : goal.invariant-loop-length
invariant-loop-length l = record {
  within : l.start ≤ length l.page;
  few : l.place.keyed + l.place.refused ≤ l.start;
  entries : l.place.entries ≤ l.place.keyed + l.place.refused;
  most : l.place.line ≤ LINES;
  some : 0 < l.place.entries → l.place.line < LINES;
  rest : IsRestRead l.from l.page l.place l.start;
}

abbrev pub decreases-loop-length : goal.decreases-loop-length
decreases-loop-length l = length l.page - l.start
