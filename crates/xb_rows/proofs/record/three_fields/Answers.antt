use Rattle.std.proofs.Common.{◌≡◌, ◌∙◌, length, sym}
use Rattle.csv.specs.Records.{fields_of}
use Rattle.xb_rows.proofs.ThreeFields.{field_at-of_three, three_fields-is}
use Rattle.xb_rows.proofs.record.three_fields.Goals as goal

pub returns-in_err-line : goal.returns-in_err-line
returns-in_err-line c =
    let three : length (fields_of c.args.fields.now) ≡ 3 = sym c.len.ensures ∙ c.if-len-ne-ROW_FIELDS.false in
    absurd ((field_at-of_three (fields_of c.args.fields.now) three).0 (sym c.in_err-line.ensures.value))

pub returns-in_err-state : goal.returns-in_err-state
returns-in_err-state c =
    let three : length (fields_of c.args.fields.now) ≡ 3 = sym c.len.ensures ∙ c.if-len-ne-ROW_FIELDS.false in
    absurd ((field_at-of_three (fields_of c.args.fields.now) three).1 (sym c.in_err-state.ensures.value))

pub returns-in_err-ms : goal.returns-in_err-ms
returns-in_err-ms c =
    let three : length (fields_of c.args.fields.now) ≡ 3 = sym c.len.ensures ∙ c.if-len-ne-ROW_FIELDS.false in
    absurd ((field_at-of_three (fields_of c.args.fields.now) three).2 (sym c.in_err-ms.ensures.value))

pub returns : goal.returns
returns c =
    let three : length (fields_of c.args.fields.now) ≡ 3 = sym c.len.ensures ∙ c.if-len-ne-ROW_FIELDS.false in
    let at = c.in_ok-line.ensures.value in
    sym (three_fields-is _ _ _ _ three at c.in_ok-state.ensures.value c.in_ok-ms.ensures.value)
