use Rattle.std.proofs.Common.{◌≡◌, ◌≤◌, ◌+◌, ◌*◌, ◌^◌}
use Rattle.xb_live.specs.Starting.{asked_of}
use Rattle.xb_live.proofs.SoundedRuns.{HasSoFar}
use Rattle.xb_live.proofs.deck_sound.sound_rows.Given as goal

abbrev pub invariant-loop : goal.invariant-loop
invariant-loop g l = record {
  few : l.office.keyed + l.office.refused ≤ l.counter;
  given_up : l.starting.given_up ≤ l.counter;
  lead : l.starting.dial.lead_ms ≤ l.counter * 2 ^ 32;
  now : l.starting.dial.now_ms ≤ l.counter * 2 ^ 32;
  table : l.office.live.table ≡ l.initial.office.live.table;
  so_far : HasSoFar l.counter (asked_of l.line l.initial.starting.start) l.initial.trunk.cadence l.office l.starting l.trunk l.initial.rows l.rows (g.W.Write.contents l.initial.out) (g.W.Write.contents l.out);
}
