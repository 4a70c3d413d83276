use Rattle.std.proofs.Common.{◌≡◌, ◌∷◌, codes, decimal, map, take}
use Rattle.serde_json.specs.Data.{string}
use Rattle.serde_json.specs.View.{view}
use Rattle.xb_json.proofs.keys.keys_of.Given as goal

abbrev pub invariant-loop-digit : goal.invariant-loop-digit
invariant-loop-digit l =
    map view l.keys.items
    ≡ string (codes "KP") ∷ map (λ digit. string (decimal digit)) (take l.digit-index l.digits)
