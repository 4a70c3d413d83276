-- Why rows are not written.
use Rattle.std.specs.Prelude.{◌≡◌, Option, IfSome}
use Rattle.xb_model.specs.Sources.{Rest}
use Rattle.xb_model.specs.declared.fault.RowFault.TheVariants.{Read}
use Rattle.xb_parts.specs.RowStreams.{HasFailed, StopsRows}
use Rattle.xb_parts.specs.declared.writing.WriteRowsFault.{WriteRowsFault}
use Rattle.xb_parts.specs.declared.writing.WriteRowsFault.TheVariants as fault

-- a fault of the rows is the one that stops them, and that they could not be read is only said where their
-- reader has failed
abbrev pub IsOfRows : Option Rest → Option Rest → WriteRowsFault → Type 0
IsOfRows old new (fault.Rows f) = IfSome old (λ rest. StopsRows rest f) × (f ≡ Read → HasFailed new)
IsOfRows old new (fault.Write e) = Unit {0}
