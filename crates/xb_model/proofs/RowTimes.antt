-- How long a row may last.
use Rattle.std.proofs.Common.{ℕ, ◌≤◌, arith}
use Rattle.std.proofs.lemmas.Bool.Decides.{nat_tests}
use Rattle.xb_model.specs.declared.row.Contact.{Contact}
use Rattle.xb_model.specs.declared.row.Contact.TheVariants.{Make, Brk, Close}
use Rattle.xb_model.specs.declared.row.TheConstants.{GREATEST_MS}
use Rattle.xb_model.specs.Rows.{IsRow}

-- a row lasts a day at the most
pub at_most_a_day : (contact : Contact) (ms : ℕ) → IsRow contact ms → ms ≤ GREATEST_MS
at_most_a_day Make ms lawful = grind (arith, nat_tests)
at_most_a_day Brk ms lawful = grind (arith, nat_tests)
at_most_a_day Close ms lawful = grind (arith, nat_tests)
