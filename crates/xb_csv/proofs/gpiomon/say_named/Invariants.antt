use Rattle.std.proofs.Common.{◌≡◌, ◌++◌, drop, map}
use Rattle.xb_csv.specs.Gpiomons.{named_edges}
use Rattle.xb_csv.proofs.gpiomon.say_named.Given as goal

abbrev pub invariant-loop-i : goal.invariant-loop-i
invariant-loop-i l =
    l.events.items ++ named_edges l.i l.text l.level (map (λ name. name.now) (drop l.i l.names))
    ≡ l.initial.events.items ++ named_edges 0 l.text l.level (map (λ name. name.now) l.names)
