use Rattle.std.proofs.Common.{refl}
use Rattle.std.specs.Fmt.{digits}
use Rattle.xb_model.specs.Page.{marks_text}
use Rattle.serde_json.proofs.OnLiterals.{serde_json_on_literals}
use Rattle.xb_route.proofs.laws.lines_of_numbers.Goals as goal

pub returns-clause-lines : goal.returns-clause-lines
unfolding marks_text digits
returns-clause-lines c = record {
  operator = refl;
  dialled = refl;
  unknown = refl;
  no_pulses = refl;
  no_keys = refl;
  incomplete = refl;
  left_over = refl;
}

pub returns-clause-objects : goal.returns-clause-objects
unfolding digits serde_json_on_literals
returns-clause-objects c = record { operator = refl; dialled = refl; unknown = refl; incomplete = refl }
