use Rattle.std.proofs.Common.{◌≡◌, ◌++◌, Option, Some, None, Result, Ok, Err, refl, ap, ◌∙◌}
use Rattle.std.specs.Prelude.{codes}
use Rattle.xb_model.specs.declared.fault.RowFault.{RowFault}
use Rattle.xb_model.specs.Rows.{LoopRow}
use Rattle.xb_model.specs.Sources.{Rest}
use Rattle.xb_rows.proofs.TextLines.{lines_are_records}
use Rattle.xb_rows.specs.RowTexts.{rest_of_text}
use Rattle.xb_rows.specs.TextLines.{BeginsAs, row_of_line}
use Rattle.xb_findings.specs.Records.{first_record, record_read}
use Rattle.xb_findings.proofs.records.record_of_line.Goals as goal

-- what rows begin with is their first record
begins : (given : Result (Option LoopRow) RowFault) (rest : Rest) → BeginsAs given rest
    → record_read given ≡ first_record rest.rows rest.stop
begins (Ok (Some row)) rest (later, e) = rw e refl
begins (Ok None) rest e = rw e refl
begins (Err f) rest e = rw e refl

pub returns : goal.returns
returns c =
    let line = c.args.line.now in
    c.record_read.ensures ∙ ap record_read c.row_of_line.ensures
    ∙ begins (row_of_line 1 line) (rest_of_text (codes "line,state,ms\n" ++ line)) (lines_are_records line)
