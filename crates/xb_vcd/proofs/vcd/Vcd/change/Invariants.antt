use Rattle.std.proofs.Common.{◌≡◌, ◌++◌, drop}
use Rattle.xb_vcd.specs.VcdChanges.{level_events}
use Rattle.xb_vcd.proofs.vcd.Vcd.change.Given as goal

abbrev pub invariant-loop-i : goal.invariant-loop-i
invariant-loop-i l =
    l.events.items ++ level_events l.i l.code l.level (drop l.i l.self.codes.items)
    ≡ l.initial.events.items ++ level_events 0 l.code l.level l.self.codes.items
