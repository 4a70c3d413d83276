use Rattle.std.proofs.Common.{◌≡◌, ◌<◌, drop, take}
use Rattle.xb_routes.specs.Codes.{AreDigits}
use Rattle.xb_routes.specs.Places.{code_number, number_from}
use Rattle.xb_routes.proofs.CodeNumbers.{past_numbers}
use Rattle.xb_routes.proofs.routes.code_number.Given as goal

abbrev pub invariant-loop-digit : goal.invariant-loop-digit
invariant-loop-digit l = record {
  number : number_from l.number (drop l.digit-index l.digits) ≡ code_number l.digits;
  bound : l.number < past_numbers l.digit-index;
  digits : AreDigits (take l.digit-index l.digits);
}
