-- What the call answers that takes a row of a line.
use Rattle.std.specs.Prelude.{◌≡◌, ℕ, ◌≤◌, ◌==◌, not, if◌then◌else◌, List, [], ◌∷◌, take, Option, Some, None}
use Rattle.xb_model.specs.Numbers.{digit_of_count}
use Rattle.xb_structs.specs.declared.line.PlainLine.{PlainLine}
use Rattle.xb_structs.specs.declared.refusal.Refusal.{Refusal}
use Rattle.xb_structs.specs.declared.row.PlainRow.{PlainRow}
use Rattle.xb_structs.specs.declared.row_signals.PlainSignal.{PlainSignal}
use Rattle.xb_structs.specs.declared.table.PlainTable.{PlainTable}
use Rattle.xb_structs.specs.Calls.{IsTaken}
use Rattle.xb_structs.specs.Lines.{pulse_in, register_in}
use Rattle.xb_structs.specs.Signals.{Hears}
use Rattle.xb_structs.specs.Status.{refusal_status}
use Rattle.xb_structs.specs.Taking.{IsRefused}
use Rattle.mfweb.specs.declared.taking.WebTaken.{WebTaken}
use Rattle.mfweb.specs.Lamps.{AreLamps, listens}
use Rattle.mfweb.specs.Wrong.{fault_by, fault_number}

-- the number of a digit, 10 for one that is spoiled
abbrev pub digit_number : Option ℕ → ℕ
digit_number None = 10
digit_number (Some digit) = digit

-- the digit that the first of these signals ends, 11 where it ends none: a digit is always told first
abbrev pub digit_of_first : List PlainSignal → ℕ
digit_of_first [] = 11
digit_of_first (signal ∷ more) =
    if signal.kind == 1 then digit_number (digit_of_count signal.breaks (not (signal.bad == 0))) else 11

-- the row is taken: here are its marks, what the register was told, what is wrong with the run that it ended, and the
-- lamps of the line after it
pub record TakesRow (table : PlainTable) (old new : PlainLine) (row : PlainRow) (taken : WebTaken) : Type 0 where
  pub takes : IsTaken table old new row taken.marks taken.mark_count
  pub hears : Hears table old row taken.signals taken.signal_count
  pub few : taken.signal_count ≤ 2
  pub lamps : AreLamps new taken.lamps
  pub wrong : taken.wrong ≡ fault_number (fault_by table.limits (pulse_in old.pulse) row)
  pub digit : taken.digit ≡ digit_of_first (take taken.signal_count taken.signals)
  pub listens : taken.listens ≡ listens (register_in old.register)

-- the status says why the row is not taken, for which there is always room, and all is as it was
pub record RefusesRow (table : PlainTable) (old new : PlainLine) (row : PlainRow) (taken given : WebTaken) (status : ℕ) : Type 0 where
  pub refusal : Refusal
  pub is : status ≡ refusal_status refusal
  pub why : IsRefused refusal table row old 24
  pub line : new ≡ old
  pub same : given ≡ taken
