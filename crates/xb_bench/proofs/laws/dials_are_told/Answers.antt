use Rattle.std.proofs.Common.{refl}
use Rattle.std.specs.Fmt.{digits}
use Rattle.serde_json.proofs.OnLiterals.{serde_json_on_literals}
use Rattle.xb_bench.proofs.laws.dials_are_told.Goals as goal

pub returns : goal.returns
unfolding digits serde_json_on_literals
returns c = record {
  good = record { as_line = λ alloc form. refl; as_object = λ alloc form. refl };
  spoiled = record { as_line = λ alloc form. refl; as_object = λ alloc form. refl };
  unfinished = record { as_line = λ alloc form. refl; as_object = λ alloc form. refl };
  ended = record { as_line = λ alloc form. refl; as_object = λ alloc form. refl };
  summary = record { as_line = λ alloc form. refl; as_object = λ alloc form. refl };
  windows = refl;
}
