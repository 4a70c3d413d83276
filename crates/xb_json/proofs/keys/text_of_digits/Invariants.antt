use Rattle.std.proofs.Common.{◌≡◌, ◌++◌, drop, string_bytes}
use Rattle.xb_json.specs.Keys.{digits_text}
use Rattle.xb_json.proofs.keys.text_of_digits.Given as goal

abbrev pub invariant-loop-digit : goal.invariant-loop-digit
invariant-loop-digit l =
    string_bytes l.text ++ digits_text (drop l.digit-index l.digits) ≡ digits_text l.digits
