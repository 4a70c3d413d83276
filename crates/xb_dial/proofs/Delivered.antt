-- What a writer got of the rows of a text.
use Rattle.std.proofs.Common.{◌≡◌, ℕ, List, Option, Some, None, Result, Ok, Err, IfErr, IfSome, OnOk, refl, subst}
use Rattle.std.specs.Prelude.{◌≢◌}
use Rattle.std.specs.Io.KnownBytes.{Appends, Keeps}
use Rattle.xb_text.specs.Writing.{AppendsBeginning}
use Rattle.xb_model.specs.Rows.{LoopRow}
use Rattle.xb_dial.specs.declared.fault.DialFault.{DialFault}
use Rattle.xb_dial.specs.declared.fault.DialFault.TheVariants as fault
use Rattle.xb_dial.specs.declared.request.Request.{Request}
use Rattle.xb_dial.specs.Printed.{Delivers, Dials, IsFaultOfPrinting, IsReadBack, Sends, WhereWritten, printed_of}

-- what is said of what was read, said of what there was, where that is known
of-known : (P : List ℕ → Type 0) (text : Option (List ℕ)) (taken : List ℕ) → IfSome text (λ bytes. taken ≡ bytes) → P taken
    → IfSome text P
of-known P None taken whole holds = tt
of-known P (Some bytes) taken whole holds = subst P whole holds

-- a fault is another than that of a write
abbrev IsOther : DialFault → Type 0
IsOther fault.Write = ⊥
IsOther f = Unit {0}

module _ (request : Request) (text : Option (List ℕ)) (taken : List ℕ) (rows : List LoopRow) (old new : Option (List ℕ))
    (whole : IfSome text (λ bytes. taken ≡ bytes)) (sends : Sends request taken rows) where
  abbrev printed : List ℕ
  printed = printed_of request.manner.form rows

  dials : IsReadBack request.manner.form rows → Dials request taken printed
  dials back = record { rows = rows; are_sent = sends; are_printed = refl; read_back = back }

  at-fault : (f : DialFault) → IsFaultOfPrinting request.manner.form rows f → WhereWritten f (IsReadBack request.manner.form rows)
      → AppendsBeginning old new printed → (f ≢ fault.Write → Keeps old new)
      → Delivers request text (Err f) old new
  at-fault (fault.Speed f) is back begins keeps = absurd is
  at-fault fault.Read is back begins keeps = absurd is
  at-fault fault.TooLong is back begins keeps = absurd is
  at-fault (fault.Calls f) is back begins keeps = absurd is
  at-fault fault.SeveralLines is back begins keeps = absurd is
  at-fault (fault.Worn f) is back begins keeps = absurd is
  at-fault fault.LongDump is back begins keeps =
      (keeps (λ e. subst IsOther e tt), of-known _ text taken whole (rows, sends, is))
  at-fault fault.NoMemory is back begins keeps = keeps (λ e. subst IsOther e tt)
  at-fault fault.Write is back begins keeps =
      of-known _ text taken whole (printed, dials back, begins)

  pub delivered : (result : Result (Unit {0}) DialFault) → OnOk result (Appends old new printed)
      → AppendsBeginning old new printed → OnOk result (IsReadBack request.manner.form rows)
      → IfErr result (λ f. WhereWritten f (IsReadBack request.manner.form rows))
      → IfErr result (IsFaultOfPrinting request.manner.form rows)
      → IfErr result (λ f. f ≢ fault.Write → Keeps old new)
      → Delivers request text result old new
  delivered (Ok u) appends begins back partly is keeps =
      of-known _ text taken whole (printed, dials back, appends)
  delivered (Err f) appends begins back partly is keeps = at-fault f is partly begins keeps
