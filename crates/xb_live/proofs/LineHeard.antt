-- The marks that a line's rows complete, one row after another, and what is heard of them.
use Rattle.std.proofs.Common.{◌≡◌, ℕ, eqb, eqb-true, Bool, List, [], ◌∷◌, ◌++◌, map, length, drop, refl, sym, ap, ◌∙◌, subst, ⊎_elim, append_assoc, append-nil}
use Rattle.std.specs.List.{AllByRecursion, flat_map}
use Rattle.std.specs.Prelude.{if◌then◌else◌}
use Rattle.std.proofs.Math.Seq.{drop-append_seam}
use Rattle.std.proofs.lemmas.Bool.{cases_Bool}
use Rattle.std.proofs.lemmas.List.{map-append}
use Rattle.std.proofs.lemmas.List.Concat.{flat_map-append}
use mathlib.Core.List.{IsPrefix}
use Rattle.xb_model.specs.declared.dialled.Dialled.{Dialled}
use Rattle.xb_model.specs.declared.mark.Mark.{Mark}
use Rattle.xb_model.specs.declared.on.On.{On}
use Rattle.xb_model.specs.declared.signal.Signal.{Signal}
use Rattle.xb_model.specs.Image.{image, image_from, state_after}
use Rattle.xb_model.specs.Lines.{of_line, on_line_of, row_line}
use Rattle.xb_model.specs.OnLines.{all_on}
use Rattle.xb_model.specs.Records.{attempts_of, record_of}
use Rattle.xb_model.specs.Rows.{LoopRow}
use Rattle.xb_model.proofs.Images.{image-push, image_after-append, image_after-none, image_after-one}
use Rattle.xb_model.proofs.Lines.{of_line-all, of_line-append, of_line-none}
use Rattle.xb_pulse.specs.Machine.{machine as pulse_machine}
use Rattle.xb_pulse.specs.Outputs.{outs_on_line}
use Rattle.xb_register.specs.Machine.{machine as register_machine}
use Rattle.xb_routes.specs.Table.{Table}
use Rattle.xb_serial.specs.Chain.{keyed}
use Rattle.xb_serial.specs.Office.{marks_of_rows}
use Rattle.xb_serial.specs.Promises.{marks_on, tape_on}
use Rattle.xb_serial.proofs.OneLine.{image_from-on}
use Rattle.xb_serial.proofs.Promises.{chain_keeps_promises}
use Rattle.xb_sound.specs.HeardKeys.{AreKeyed, IsHeard}
use Rattle.xb_sound.proofs.TapeKeys.{entries-keyed}
use Rattle.xb_trunk.specs.Sounded.{Step, step_of, whole_sound}
use Rattle.xb_trunk.specs.Laws.{marks_of}
use Rattle.xb_trunk.proofs.HeardCalls.{keyed-split, keys_are_heard}
use Rattle.xb_live.specs.Entries.{Entry, entries_of_rows}
use Rattle.xb_live.specs.LineHeard.{LineIsHeard}
use Rattle.xb_live.specs.Steps.{marks_by, steps_after, steps_in, steps_of}
use Rattle.xb_live.proofs.Completed.{dialled_of, entries-dialled, entry_from, marks-dialled}
use Rattle.xb_live.proofs.LineEntries.{keying, of_line-marks}
use Rattle.xb_live.proofs.SoundedRows.{steps-cons, steps-none}

module _ (table : Table) where
  -- the outcomes that a row brings
  abbrev brought : List LoopRow → LoopRow → List (On Dialled)
  brought rows row =
      image_from (register_machine table.plan) (state_after on_line_of (register_machine table.plan) (image row_line (pulse_machine table.limits) rows) (row_line row))
      ((pulse_machine table.limits).outs (state_after row_line (pulse_machine table.limits) rows (row_line row)) row)

  brought-on : (rows : List LoopRow) (row : LoopRow) → AllByRecursion (λ (outcome : On Dialled). on_line_of outcome ≡ row_line row) (brought rows row)
  brought-on rows row =
      image_from-on (register_machine table.plan) on_line_of on_line_of (λ q x. all_on x.line _) (row_line row) _ _
      (outs_on_line table.limits (state_after row_line (pulse_machine table.limits) rows (row_line row)) row)

  dialled-more : (rows : List LoopRow) (row : LoopRow) → dialled_of table (rows ++ row ∷ []) ≡ dialled_of table rows ++ brought rows row
  dialled-more rows row =
      let p = pulse_machine table.limits in
      let r = register_machine table.plan in
      let before : List (On Signal) = image row_line p rows in
      let now : List (On Signal) = p.outs (state_after row_line p rows (row_line row)) row in
      ap (image on_line_of r) (image-push row_line p rows row)
      ∙ image_after-append on_line_of r [] before now
      ∙ ap (λ later. image on_line_of r before ++ later) (image_after-one on_line_of r (row_line row) before now (outs_on_line table.limits (state_after row_line p rows (row_line row)) row))

  -- the marks of outcomes
  abbrev keyings : List (On Dialled) → List Mark
  keyings outcomes = flat_map (keying table) outcomes

  whats-keyings : (outcomes : List (On Dialled)) → flat_map (λ (entry : Entry). entry.what) (map (entry_from table) outcomes) ≡ keyings outcomes
  whats-keyings [] = refl
  whats-keyings (outcome ∷ outcomes) = ap (λ marks. keying table outcome ++ marks) (whats-keyings outcomes)

  marks-brought : (rows : List LoopRow) (row : LoopRow) → marks_by table rows row ≡ keyings (brought rows row)
  marks-brought rows row =
      let more : entries_of_rows table (rows ++ row ∷ []) ≡ entries_of_rows table rows ++ map (entry_from table) (brought rows row) =
      entries-dialled table (rows ++ row ∷ []) ∙ ap (map (entry_from table)) (dialled-more rows row)
      ∙ map-append (entry_from table) (dialled_of table rows) (brought rows row)
      ∙ ap (λ entries. entries ++ map (entry_from table) (brought rows row)) (sym (entries-dialled table rows)) in
      ap (λ entries. flat_map (λ (entry : Entry). entry.what) (drop (length (entries_of_rows table rows)) entries)) more
      ∙ ap (flat_map (λ (entry : Entry). entry.what)) (drop-append_seam (entries_of_rows table rows) (map (entry_from table) (brought rows row)))
      ∙ whats-keyings (brought rows row)

  -- the marks of a row's step are those that it brings of the line
  marks-step : (l : ℕ) (rows : List LoopRow) (row : LoopRow) → marks_of (steps_in table l rows row) ≡ keyings (of_line on_line_of l (brought rows row))
  marks-step l rows row =
      ⊎_elim
      (λ on.
      ap (λ (here : Bool). marks_of (if here then step_of row.ms (marks_by table rows row) ∷ [] else [])) on
      ∙ append-nil (marks_by table rows row) ∙ marks-brought rows row
      ∙ ap keyings (sym (of_line-all on_line_of l (brought rows row) (subst (λ k. AllByRecursion (λ (outcome : On Dialled). on_line_of outcome ≡ k) (brought rows row)) (eqb-true _ _ on) (brought-on rows row)))))
      (λ off.
      ap (λ (here : Bool). marks_of (if here then step_of row.ms (marks_by table rows row) ∷ [] else [])) off
      ∙ ap keyings (sym (of_line-none on_line_of l (row_line row) (brought rows row) (brought-on rows row) off)))
      (cases_Bool (eqb row.line l))

  marks-steps : (l : ℕ) (earlier rows : List LoopRow)
      → keyings (of_line on_line_of l (dialled_of table earlier)) ++ marks_of (steps_after table l earlier rows) ≡ keyings (of_line on_line_of l (dialled_of table (earlier ++ rows)))
  marks-steps l earlier [] =
      ap (λ steps. keyings (of_line on_line_of l (dialled_of table earlier)) ++ marks_of steps) (steps-none table l earlier)
      ∙ append-nil _
      ∙ ap (λ rows. keyings (of_line on_line_of l (dialled_of table rows))) (sym (append-nil earlier))
  marks-steps l earlier (row ∷ rows) =
      let before = keyings (of_line on_line_of l (dialled_of table earlier)) in
      let here = of_line on_line_of l (brought earlier row) in
      let later = steps_after table l (earlier ++ row ∷ []) rows in
      let grown : before ++ keyings here ≡ keyings (of_line on_line_of l (dialled_of table (earlier ++ row ∷ []))) =
      sym (flat_map-append (keying table) (of_line on_line_of l (dialled_of table earlier)) here)
      ∙ ap keyings (sym (of_line-append on_line_of l (dialled_of table earlier) (brought earlier row)) ∙ ap (of_line on_line_of l) (sym (dialled-more earlier row))) in
      ap (λ steps. before ++ marks_of steps) (steps-cons table l earlier row rows)
      ∙ ap (λ marks. before ++ marks) (flat_map-append (λ (step : Step). step.marks) (steps_in table l earlier row) later ∙ ap (λ marks. marks ++ marks_of later) (marks-step l earlier row))
      ∙ sym (append_assoc before (keyings here) (marks_of later))
      ∙ ap (λ marks. marks ++ marks_of later) grown
      ∙ marks-steps l (earlier ++ row ∷ []) rows
      ∙ ap (λ all. keyings (of_line on_line_of l (dialled_of table all))) (append_assoc earlier (row ∷ []) rows)

  -- those of all rows are the line's
  marks-sounded : (l : ℕ) (rows : List LoopRow) → marks_of (steps_of table l rows) ≡ marks_on l (marks_of_rows table rows)
  marks-sounded l rows =
      let none : keyings (of_line on_line_of l (dialled_of table [])) ≡ [] =
      ap (λ signals. keyings (of_line on_line_of l (image on_line_of (register_machine table.plan) signals))) (image_after-none row_line (pulse_machine table.limits) [])
      ∙ ap (λ outcomes. keyings (of_line on_line_of l outcomes)) (image_after-none on_line_of (register_machine table.plan) []) in
      ap (λ marks. marks ++ marks_of (steps_of table l rows)) (sym none)
      ∙ marks-steps l [] rows
      ∙ sym (of_line-marks table l (dialled_of table rows))
      ∙ ap (marks_on l) (sym (marks-dialled table rows))

first-keyed : (first all : List Mark) → IsPrefix first all → AreKeyed all → AreKeyed first
first-keyed first all (rest, is) keyed = (keyed-split first rest (subst AreKeyed (sym is) keyed)).0

pub line_is_heard : LineIsHeard
line_is_heard cadence table line rows apart lawful have =
    let promises = chain_keeps_promises table lawful rows (marks_of_rows table rows) refl in
    let first : IsPrefix (marks_on line (marks_of_rows table rows)) (tape_on table line rows) =
    subst (λ all. IsPrefix (marks_on line (marks_of_rows table rows)) (tape_on table line all)) (append-nil rows) (promises.never_back line []) in
    let tape : AreKeyed (tape_on table line rows) =
    entries-keyed table.routes have table.plan table.limits (attempts_of table.limits (record_of line rows)) in
    let same = marks-sounded table line rows in
    let keys : AreKeyed (marks_of (steps_of table line rows)) =
    subst AreKeyed (sym same) (first-keyed (marks_on line (marks_of_rows table rows)) (tape_on table line rows) first tape) in
    let heard : IsHeard (whole_sound cadence [] (steps_of table line rows)) (marks_on line (marks_of_rows table rows)) =
    subst (IsHeard (whole_sound cadence [] (steps_of table line rows))) same (keys_are_heard cadence (steps_of table line rows) apart keys) in
    record {
      so_far = heard;
      whole = λ closed. subst (IsHeard (whole_sound cadence [] (steps_of table line rows))) (promises.whole line closed) heard;
    }
