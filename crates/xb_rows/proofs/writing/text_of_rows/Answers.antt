use Rattle.std.proofs.Common.{◌≡◌, ◌+◌, ◌++◌, ◌∷◌, [], ℕ, List, take, take_all, sym, ap, ◌∙◌, subst}
use Rattle.std.specs.Prelude.{codes}
use Rattle.std.proofs.lemmas.List.{take_more, flat_map_more}
use Rattle.std.proofs.lemmas.List.Elements.{All-more}
use Rattle.xb_model.specs.Rows.{LoopRow}
use Rattle.xb_rows.specs.RowTexts.{rest_of_text}
use Rattle.xb_rows.specs.WrittenRows.{AreRows, IsLawfulRow, record_text, text_of_rows}
use Rattle.xb_rows.proofs.WrittenRecords.{written_rows_are_read}
use Rattle.xb_rows.proofs.writing.text_of_rows.Goals as goal

pub loop-row-preserved : goal.loop-row-preserved
loop-row-preserved c =
    let rows : List LoopRow = c.args.rows.now in
    let i : ℕ = c.loop-row.row-index in
    let row = c.row-item.result in
    let next : take (i + 1) rows ≡ take i rows ++ row ∷ [] =
    take_more rows i row c.loop-row-test.true ∙ ap (λ one. take i rows ++ one ∷ []) (sym c.row-item.is) in
    record {
      text = (rw (c.as_str.ensures.value, c.record_of.ensures.text) at c.in_ok-push_str.ensures.bytes)
          ∙ ap (λ text. text ++ record_text row) c.loop-row.invariant.text
          ∙ flat_map_more record_text (codes "line,state,ms\n") (take i rows) row
          ∙ ap text_of_rows (sym next);
      lawful = All-more IsLawfulRow rows i row c.loop-row-test.true c.loop-row.invariant.lawful
          (subst IsLawfulRow c.row-item.is c.record_of.ensures.lawful);
    }

pub returns-clause-read : goal.returns-clause-read
returns-clause-read c = λ few.
    let rows : List LoopRow = c.args.rows.now in
    let whole : take c.loop-row.row-index rows
    ≡ rows = take_all c.loop-row.row-index rows c.loop-row-test.false in
    ap rest_of_text (c.loop-row.invariant.text ∙ ap text_of_rows whole)
    ∙ written_rows_are_read rows (subst AreRows whole c.loop-row.invariant.lawful) few
