use Rattle.std.proofs.Common.{◌≡◌, ◌+◌, drop, map}
use Rattle.xb_contact.specs.Holds.{total_of}
use Rattle.xb_dial.specs.Runs.{in_us}
use Rattle.xb_dial.specs.Traces.{runs_text}
use Rattle.xb_dial.proofs.Texts.{runs_left}
use Rattle.xb_dial.proofs.Writings.{Lacks}
use Rattle.xb_dial.proofs.trace.write_runs.Given as goal

abbrev pub invariant-loop-next : goal.invariant-loop-next
invariant-loop-next g l = record {
  lacks :
      Lacks (g.W.Write.contents l.initial.out) (g.W.Write.contents l.out)
      (runs_left l.tick l.us l.bouncing.us l.state (map in_us (drop l.next-index l.runs))
      (total_of (map in_us l.runs)))
      (runs_text l.bouncing l.runs);
  spent : l.tick + total_of (map in_us (drop l.next-index l.runs)) ≡ total_of (map in_us l.runs);
}
