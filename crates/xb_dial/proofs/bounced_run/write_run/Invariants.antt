use Rattle.std.proofs.Common.{◌≡◌, ◌+◌, ◌-◌, ◌/◌}
use Rattle.xb_contact.specs.Bounces.{bounce_ticks}
use Rattle.xb_dial.specs.Drawn.{bounces_from, bounces_of}
use Rattle.xb_dial.specs.Traces.{run_text}
use Rattle.xb_dial.proofs.Texts.{run_left}
use Rattle.xb_dial.proofs.Writings.{Lacks}
use Rattle.xb_dial.proofs.bounced_run.write_run.Given as goal

abbrev pub invariant-loop-j : goal.invariant-loop-j
invariant-loop-j g l = record {
  lacks :
      Lacks (g.W.Write.contents l.initial.out) (g.W.Write.contents l.out)
      (run_left l.now l.run.level (bounces_from (l.us / 8) l.state l.j (l.j-end - l.j))
      (l.run.ticks - bounce_ticks (bounces_of l.us l.state l.run.ticks)))
      (run_text l.tick l.us l.state l.run);
  spent :
      l.now + bounce_ticks (bounces_from (l.us / 8) l.state l.j (l.j-end - l.j))
      ≡ l.tick + bounce_ticks (bounces_of l.us l.state l.run.ticks);
}
