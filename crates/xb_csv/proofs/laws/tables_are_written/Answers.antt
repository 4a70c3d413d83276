use Rattle.std.proofs.Common.{refl}
use Rattle.std.specs.Fmt.{digits}
use Rattle.xb_csv.specs.Written.{last_digits, seconds_text}
use Rattle.xb_csv.proofs.laws.tables_are_written.Goals as goal

pub returns : goal.returns
unfolding digits last_digits seconds_text
returns c = record {
  samples = refl;
  times = refl;
  seconds = refl;
}
