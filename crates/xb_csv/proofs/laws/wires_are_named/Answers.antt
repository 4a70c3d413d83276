use Rattle.std.proofs.Common.{refl}
use Rattle.xb_csv.specs.Cells.{trimmed}
use Rattle.xb_csv.specs.Gpiomons.{between, first_word, name_of_wire, names_wire}
use Rattle.xb_csv.proofs.NamedLines.{name_is_found}
use Rattle.xb_csv.proofs.laws.wires_are_named.Goals as goal

pub returns : goal.returns
unfolding between first_word name_of_wire names_wire trimmed
returns c = record {
  number = refl;
  number_of_named = refl;
  name_of_numbered = refl;
  in_quotes = refl;
  both = refl;
  unquoted = refl;
  name = refl;
  plain_name = refl;
  of_libgpiod_1 = refl;
  another_number = refl;
  beginning = refl;
  half_a_name = refl;
  chip = refl;
  found = name_is_found;
  found_number = refl;
  found_name = refl;
  found_unquoted = refl;
  found_alone = refl;
}
