-- Texts of rows, worked out by hand.
use Rattle.std.specs.Prelude.{ℕ, ◌≡◌, ◌+◌, List, [], ◌∷◌, codes, Option, Some, None}
use Rattle.xb_model.specs.declared.row.Contact.TheVariants.{Make, Brk, Close}
use Rattle.xb_model.specs.declared.fault.RowFault.{RowFault}
use Rattle.xb_model.specs.declared.fault.RowFault.TheVariants as fault
use Rattle.xb_model.specs.Rows.{LoopRow, row_of}
use Rattle.xb_rows.specs.RowTexts.{Fields, fault_alone, rest_from, rest_of_text, rows_and_stop}

-- the rows of a text, and the stop after them
abbrev RowsAndStop : List ℕ → List LoopRow → Option RowFault → Type 0
RowsAndStop text rows stop = rest_of_text text ≡ rows_and_stop rows stop

-- texts without a row, and the fault that stops each
abbrev IsRefused : List ℕ → RowFault → Type 0
IsRefused text f = RowsAndStop text [] (Some f)

-- what some texts say
abbrev pub RowsOfTexts : Type 0
RowsOfTexts =
    IsRefused [] fault.Header
    × RowsAndStop (codes "line,state,ms") [] None
    × RowsAndStop (codes "line,state,ms\r\n5,M,500\n\n\"5\",B,60\r9999,C,00")
    (row_of 5 Make 500 ∷ row_of 5 Brk 60 ∷ row_of 9999 Close 0 ∷ []) None
    × RowsAndStop (codes "line,state,ms\n7,M,\"1\"0\n7,M") (row_of 7 Make 10 ∷ []) (Some (fault.Fields 2))
    × IsRefused (codes "line,state,ms\n10000,X,0") (fault.Line 1)
    × IsRefused (codes "line,state,ms\n7,X,x") (fault.Contact 1)
    × IsRefused (codes "line,state,ms\n7,M,86400001") (fault.Ms 1)
    × IsRefused (codes "line,state,ms\n7,M,000000001") (fault.Ms 1)
    × IsRefused (codes "line,state,ms\n7,C,1") (fault.Ms 1)

-- after the most records a further one is the fault, whatever its fields are
abbrev pub MostRecords : Type 0
MostRecords =
    (most : ℕ) (fields : Fields) (later : List Fields)
    → rest_from most (most + 1) (fields ∷ later) ≡ fault_alone fault.TooMany
