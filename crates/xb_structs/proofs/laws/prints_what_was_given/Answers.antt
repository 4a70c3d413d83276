use Rattle.std.proofs.Common.{ap, arith}
use Rattle.std.proofs.lemmas.List.{length-map}
use Rattle.xb_model.specs.Page.{entry_text}
use Rattle.xb_structs.specs.Marks.{plain_mark}
use Rattle.xb_structs.proofs.EntryLines.{all-kinds, all-read-back}
use Rattle.xb_structs.proofs.laws.prints_what_was_given.Goals as goal

pub returns-clause-line : goal.returns-clause-line
returns-clause-line c = λ line n given. ap (entry_text line n) (all-read-back given)

pub returns-clause-marks : goal.returns-clause-marks
returns-clause-marks c = λ given few. record { few = omega (arith, length-map given plain_mark, few); kinds = all-kinds given }
