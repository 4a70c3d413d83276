use Rattle.std.proofs.Common.{◌≡◌, drop}
use Rattle.xb_keys.specs.Keys.{key_named}
use Rattle.xb_keys.proofs.key.key_named.Given as goal

abbrev pub invariant-loop-key : goal.invariant-loop-key
invariant-loop-key l = key_named l.text (drop l.key-index l.keys) ≡ key_named l.text l.keys
