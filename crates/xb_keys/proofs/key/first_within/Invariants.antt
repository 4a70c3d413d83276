use Rattle.std.proofs.Common.{◌≡◌, drop}
use Rattle.xb_keys.specs.Keys.{first_within}
use Rattle.xb_keys.proofs.key.first_within.Given as goal

abbrev pub invariant-loop-key : goal.invariant-loop-key
invariant-loop-key l =
    first_within l.most l.text (drop l.key-index l.keys) ≡ first_within l.most l.text l.keys
