-- One row more.
use Rattle.std.proofs.Common.{◌≡◌, ℕ, ◌<◌, List, [], ◌∷◌, ◌++◌, length, get_or, set, refl, sym, ap, ◌∙◌}
use Rattle.xb_model.specs.declared.line.TheConstants.{LINES}
use Rattle.xb_model.specs.declared.mark.Mark.{Mark}
use Rattle.xb_model.specs.declared.on.On.{On}
use Rattle.xb_model.specs.LawfulLimits.{IsLawful}
use Rattle.xb_model.specs.Lines.{row_line, on_line_of}
use Rattle.xb_model.specs.Rows.{LoopRow}
use Rattle.std.specs.List.{All}
use Rattle.xb_model.proofs.Images.{image_after-none}
use Rattle.xb_model.proofs.States.{states_fresh, state_held, states_more, image_more}
use Rattle.xb_model.proofs.LineValues.{AreValues-set}
use Rattle.xb_model.specs.Image.{state_after}
use Rattle.xb_serial.specs.declared.line.Line.{Line}
use Rattle.xb_serial.specs.Chain.{fresh_line, live_machine, marks_of_row, state_after_row}
use Rattle.xb_serial.specs.Without.{without}
use Rattle.xb_serial.specs.Office.{Office, HasTaken}
use Rattle.xb_serial.proofs.Fusion.{fusion, row_marks-on}
use Rattle.xb_serial.proofs.Without.{state_after-without_same, state_after-without_other, image-without}

-- where every line is as before its first row, no row is taken
pub taken-none : (office : Office) → IsLawful office.table.limits → length office.lines ≡ LINES → All (λ state. state ≡ fresh_line office.table) office.lines → HasTaken office [] []
taken-none office lawful count fresh =
    let m = live_machine office.table in
    record {
      lawful = lawful;
      states = states_fresh row_line m office.lines count fresh;
      chain = sym (image_after-none row_line m []) ∙ fusion office.table [];
    }

-- where a line is given its state after a row, and the row's marks are given, the row is taken
pub taken-more :
    (office after : Office) (rows : List LoopRow) (marks : List (On Mark)) (row : LoopRow) (k : ℕ) (before state : Line)
    → HasTaken office rows marks → after.table ≡ office.table → after.lines ≡ set office.lines k state
    → length office.lines ≡ LINES → k < LINES → k ≡ row_line row → before ≡ get_or office.lines k before
    → state ≡ state_after_row office.table before row → after.given ≡ marks_of_row office.table before row
    → HasTaken after (rows ++ row ∷ []) (marks ++ after.given)
taken-more office after rows marks row k before state taken table lines count below on held next given =
    let m = live_machine office.table in
    let is = state_held row_line m rows row office.lines k before taken.states below on held in
    record {
      lawful = rw table taken.lawful;
      states = rw (table, lines) (states_more row_line m rows row before is office.lines k state taken.states count below on next);
      chain = rw table (image_more row_line m rows row before is marks after.given (marks ++ after.given) (taken.chain ∙ sym (fusion office.table rows)) given refl ∙ fusion office.table (rows ++ row ∷ []));
    }

-- where a line is as before its first row, its record is forgotten, and no other
pub taken-without :
    (office after : Office) (rows : List LoopRow) (marks : List (On Mark)) (l : ℕ) (state : Line)
    → HasTaken office rows marks → after.table ≡ office.table → after.lines ≡ set office.lines l state
    → length office.lines ≡ LINES → l < LINES → state ≡ fresh_line office.table
    → HasTaken after (without row_line l rows) (without on_line_of l marks)
taken-without office after rows marks l state taken table lines count below fresh =
    let m = live_machine office.table in
    record {
      lawful = rw table taken.lawful;
      states = rw (table, lines) (AreValues-set office.lines (state_after row_line m rows) (state_after row_line m (without row_line l rows)) l state taken.states count below
          (fresh ∙ sym (state_after-without_same row_line m l rows)) (λ k n. state_after-without_other row_line m l rows k n));
      chain = rw table (ap (without on_line_of l) (taken.chain ∙ sym (fusion office.table rows))
          ∙ image-without row_line on_line_of m (row_marks-on office.table) l rows
          ∙ fusion office.table (without row_line l rows));
    }
