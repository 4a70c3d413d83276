use Rattle.std.proofs.Common.{◌≡◌, ◌++◌, None, drop}
use Rattle.xb_svg.specs.Drawings.{says}
use Rattle.xb_shown.specs.Keyings.{from_of, keys_words}
use Rattle.xb_shown.proofs.keying.put_keys.Given as goal

abbrev pub invariant-loop-key : goal.invariant-loop-key
invariant-loop-key l =
    says l.out.items ++ keys_words l.last_key (from_of l.last_row) (drop l.key-index l.keys)
    ≡ says l.fn.out.items ++ keys_words l.fn.before None l.keys
