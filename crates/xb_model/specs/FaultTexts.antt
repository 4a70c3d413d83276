-- The text of each fault.
use Rattle.std.specs.Prelude.{ℕ, ◌++◌, List, codes, decimal}
use Rattle.xb_model.specs.declared.fault.RowFault.{RowFault}
use Rattle.xb_model.specs.declared.fault.RowFault.TheVariants as row

-- of loop rows
abbrev pub row_text : RowFault → List ℕ
row_text row.Read = codes "the rows could not be read"
row_text row.Header = codes "the header is not line,state,ms"
row_text (row.Fields number) = codes "record " ++ decimal number ++ codes " has not three fields"
row_text (row.Line number) = codes "record " ++ decimal number ++ codes " has a wrong line"
row_text (row.Contact number) = codes "record " ++ decimal number ++ codes " has a wrong state"
row_text (row.Ms number) = codes "record " ++ decimal number ++ codes " has a wrong ms"
row_text row.TooMany = codes "more than 1000000 records"
row_text row.NoMemory = codes "out of memory"
