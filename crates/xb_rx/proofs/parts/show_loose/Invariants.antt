use Rattle.std.proofs.Common.{◌≡◌, drop, string_bytes}
use Rattle.xb_rx.specs.Shown.{Shows, last_of, loose_parts}
use Rattle.xb_rx.proofs.parts.show_loose.Given as goal

abbrev pub invariant-loop-key : goal.invariant-loop-key
invariant-loop-key l = record {
  text : Shows l.fn.sheet (loose_parts l.fn.before l.keys) l.sheet (loose_parts l.last (drop l.key-index l.keys))
      (string_bytes l.fn.out) (string_bytes l.out);
  last : last_of l.last (drop l.key-index l.keys) ≡ last_of l.fn.before l.keys;
}
