use Rattle.std.proofs.Common.{◌≡◌, ◌≤◌, drop}
use Rattle.xb_ear.specs.Tails.{is_outdone, outdone_from}
use Rattle.xb_ear.proofs.echo_tails.is_outdone.Given as goal

abbrev pub invariant-loop-earlier : goal.invariant-loop-earlier
invariant-loop-earlier l =
    (outdone_from l.row (drop l.earlier-index l.before) l.seen ≡ is_outdone l.before l.seen) × (l.row ≤ 5)
