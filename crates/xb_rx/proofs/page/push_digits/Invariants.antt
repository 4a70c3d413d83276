use Rattle.std.proofs.Common.{◌≡◌, ◌++◌, drop, map}
use Rattle.xb_model.specs.declared.key.Key.TheVariants.{Digit}
use Rattle.xb_model.specs.Keyings.{tone}
use Rattle.xb_measured.specs.Keyings.{digits_in}
use Rattle.xb_rx.proofs.page.push_digits.Given as goal

abbrev pub invariant-loop-key : goal.invariant-loop-key
invariant-loop-key l =
    l.marks.items ++ map (λ d. tone (Digit d)) (digits_in (drop l.key-index l.keys))
    ≡ l.initial.marks.items ++ map (λ d. tone (Digit d)) (digits_in l.keys)
