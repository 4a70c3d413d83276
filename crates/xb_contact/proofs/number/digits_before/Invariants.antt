use Rattle.std.proofs.Common.{◌≡◌, ◌++◌, drop, take}
use Rattle.xb_contact.specs.Numbers.{after_digits, leading_digits}
use Rattle.xb_contact.proofs.number.digits_before.Given as goal

abbrev pub invariant-loop-i : goal.invariant-loop-i
invariant-loop-i l = record {
  digits : take l.i l.text ++ leading_digits (drop l.i l.text) ≡ leading_digits l.text;
  rest : after_digits (drop l.i l.text) ≡ after_digits l.text;
}
