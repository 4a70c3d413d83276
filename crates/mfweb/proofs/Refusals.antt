-- Of a row whose signals have room for two no other refusal comes than of the row itself.
use Rattle.std.proofs.Common.{arith}
use Rattle.xb_structs.specs.declared.line.PlainLine.{PlainLine}
use Rattle.xb_structs.specs.declared.refusal.Refusal.{Refusal}
use Rattle.xb_structs.specs.declared.refusal.Refusal.TheVariants.{NotOpened, Line, State, Ms, Room}
use Rattle.xb_structs.specs.declared.row.PlainRow.{PlainRow}
use Rattle.xb_structs.specs.declared.table.PlainTable.{PlainTable}
use Rattle.xb_structs.specs.Lines.{pulse_in}
use Rattle.xb_structs.specs.Signals.{IsNotHeard}
use Rattle.xb_structs.specs.Taking.{IsRefused}
use Rattle.mfweb.proofs.FewSignals.{few_signals}

pub refused_as_heard : (refusal : Refusal) (table : PlainTable) (row : PlainRow) (line : PlainLine)
    → IsNotHeard refusal table row line 2 → IsRefused refusal table row line 24
refused_as_heard NotOpened table row line why = why
refused_as_heard Line table row line why = why
refused_as_heard State table row line why = why
refused_as_heard Ms table row line why = why
refused_as_heard Room table row line lacks =
    absurd (omega (arith, lacks.less, few_signals table.limits (pulse_in line.pulse) lacks.taken))
