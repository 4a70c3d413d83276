use Rattle.std.proofs.Common.{refl}
use Rattle.std.proofs.lemmas.Str.Ascii.{trim_ascii_is}
use Rattle.xb_csv.specs.Cells.{trimmed}
use Rattle.xb_csv.proofs.cells.trimmed.Goals as goal

pub returns : goal.returns
unfolding trimmed
returns c = trim_ascii_is _ _ _ refl c.trim_ascii.ensures.value
