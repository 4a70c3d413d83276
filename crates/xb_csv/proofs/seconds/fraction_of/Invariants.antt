use Rattle.std.proofs.Common.{◌≡◌, drop}
use Rattle.xb_contact.specs.Numbers.{number_in}
use Rattle.xb_csv.specs.Seconds.{nine_digits}
use Rattle.xb_csv.proofs.seconds.fraction_of.Given as goal

abbrev pub invariant-loop-place : goal.invariant-loop-place
invariant-loop-place l = number_in l.number (drop l.place (nine_digits l.text)) ≡ number_in 0 (nine_digits l.text)
