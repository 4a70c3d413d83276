use Rattle.std.proofs.Common.{◌≡◌, ◌^◌, ◌-◌, min, take}
use Rattle.xb_dial.specs.Runs.{us_in}
use Rattle.xb_dial.proofs.contact_runs.us_in.Given as goal

abbrev pub invariant-loop-row : goal.invariant-loop-row
invariant-loop-row l = l.us ≡ min (us_in (take l.row-index l.rows)) (2 ^ 64 - 1)
