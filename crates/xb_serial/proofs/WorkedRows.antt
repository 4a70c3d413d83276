-- The worked call and the worked refusal, row by row.
use Rattle.std.proofs.Common.{◌≡◌, ℕ, List, [], ◌∷◌, ◌++◌, take, drop, refl, sym, ◌∙◌, subst}
use Rattle.std.specs.List.{AllByRecursion}
use mathlib.Core.List.{IsPrefix}
use Rattle.std.proofs.lemmas.List.{take-append-drop}
use Rattle.xb_model.specs.Lines.{row_line}
use Rattle.xb_model.specs.Records.{Run, make}
use Rattle.xb_model.specs.Rows.{LoopRow}
use Rattle.xb_model.specs.WorkedRows.{close, pulses, dial, rows_on}
use Rattle.xb_model.specs.Image.{image_on}
use Rattle.xb_serial.specs.Chain.{live_machine}
use Rattle.xb_serial.specs.Office.{marks_of_rows}
use Rattle.xb_serial.specs.WorkedRows.{usual, marks_after, nearly_dialled, KeyedInTheRowOfItsPause, RefusedInTheRowOfTheTimeOut}
use Rattle.xb_serial.proofs.Fusion.{fusion-one, marks-prefix}

rows_on-on : (l : ℕ) (runs : List Run) → AllByRecursion (λ row. row_line row ≡ l) (rows_on l runs)
rows_on-on l [] = tt
rows_on-on l (run ∷ runs) = (refl, rows_on-on l runs)

-- by one state, handed on from row to row
by_one : (runs : List Run) → marks_after runs ≡ image_on (live_machine usual) (rows_on 7 runs)
by_one runs = sym (fusion-one usual 7 (rows_on 7 runs) (rows_on-on 7 runs))

prefix-none : {X : Type 0} (xs ys : List X) → IsPrefix xs ys → ys ≡ [] → xs ≡ []
prefix-none [] ys p e = refl
prefix-none (x ∷ xs) ys p e = absurd (cc (p.1, e))

nearly-none : marks_after nearly_dialled ≡ []
unfolding pulses dial
nearly-none = by_one nearly_dialled ∙ refl

none_before : (n : ℕ) → marks_of_rows usual (take n (rows_on 7 nearly_dialled)) ≡ []
none_before n =
    let rows : List LoopRow = rows_on 7 nearly_dialled in
    prefix-none (marks_of_rows usual (take n rows)) (marks_of_rows usual rows)
    (subst (λ all. IsPrefix (marks_of_rows usual (take n rows)) (marks_of_rows usual all)) (take-append-drop n rows)
    (marks-prefix usual (take n rows) (drop n rows)))
    nearly-none

pub keyed_in_the_row : KeyedInTheRowOfItsPause
unfolding pulses dial
keyed_in_the_row = record {
  rows = refl;
  before = none_before;
  reached = by_one (nearly_dialled ++ make 1 ∷ []) ∙ refl;
  nine = refl;
  later = by_one (nearly_dialled ++ make 1 ∷ make 86400000 ∷ close ∷ []) ∙ refl;
}

pub refused_in_the_row : RefusedInTheRowOfTheTimeOut
refused_in_the_row = record {
  before = by_one (make 500 ∷ make 19499 ∷ []) ∙ refl;
  reached = by_one (make 500 ∷ make 19499 ∷ make 1 ∷ []) ∙ refl;
  later = by_one (make 500 ∷ make 19499 ∷ make 1 ∷ make 20000 ∷ close ∷ []) ∙ refl;
}
