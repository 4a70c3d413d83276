-- The marks so far of each line, beside its tape.
use Rattle.std.proofs.Common.{◌≡◌, ℕ, true, false, List, [], ◌∷◌, ◌++◌, refl, sym, ap, ◌∙◌, subst, append_assoc}
use mathlib.Core.List.{IsPrefix}
use Rattle.std.proofs.lemmas.List.{map-append}
use Rattle.xb_model.specs.declared.mark.Mark.{Mark}
use Rattle.xb_model.specs.declared.on.On.{On}
use Rattle.xb_model.specs.LawfulLimits.{IsLawful}
use Rattle.xb_model.specs.Lines.{row_line}
use Rattle.xb_model.specs.Records.{closes, rows_of}
use Rattle.xb_model.specs.Rows.{LoopRow, close_row}
use Rattle.xb_model.proofs.Lines.{of_line-append, of_line-on}
use Rattle.xb_model.specs.OnLines.{on_line}
use Rattle.xb_tape.specs.GatheredMarks.{whats_of}
use Rattle.xb_images.proofs.LineTapes.{serial_image-line, whats_of-on_line}
use Rattle.xb_routes.specs.Table.{Table}
use Rattle.xb_serial.specs.Office.{Office, HasTaken, marks_of_rows}
use Rattle.xb_serial.specs.Promises.{marks_on, tape_on, settled_tape, LackARefusalAtMost, KeepsPromises}
use Rattle.xb_serial.proofs.Ends.{with_close, closes-with_close, record-with_close, is_on-with_close, chain, record_tape, chain-closed, chain-prefix, chain-open}
use Rattle.xb_serial.proofs.Fusion.{marks_of_line}
use Rattle.xb_serial.proofs.Lacking.{settled-lacks}

whats_of-prefix : (some all : List (On Mark)) → IsPrefix some all → IsPrefix (whats_of some) (whats_of all)
whats_of-prefix some all p = (whats_of p.0, sym (map-append (λ (mark : On Mark). mark.what) some p.0) ∙ ap whats_of p.1)

module _ (table : Table) (lawful : IsLawful table.limits) (rows : List LoopRow) (l : ℕ) where
  -- the rows of the line
  abbrev own : List LoopRow
  own = rows_of l rows

  -- what the chain gives on the line
  line-marks : marks_on l (marks_of_rows table rows) ≡ whats_of (chain table own)
  line-marks = ap whats_of (serial_image-line table.plan table.limits table.routes l rows)

  whole-marks : closes own ≡ true → marks_on l (marks_of_rows table rows) ≡ tape_on table l rows
  whole-marks closed =
      line-marks
      ∙ ap whats_of (chain-closed table l own lawful (of_line-on row_line l rows) closed)
      ∙ whats_of-on_line l (tape_on table l rows)

  module _ (later : List LoopRow) where
    -- all rows of the line, and a close
    abbrev ended : List LoopRow
    ended = with_close l (rows_of l (rows ++ later))

    own-first : IsPrefix own ended
    own-first = (
      with_close l (rows_of l later),
      sym (append_assoc own (rows_of l later) (close_row l ∷ [])) ∙ ap (with_close l) (sym (of_line-append row_line l rows later)),
    )

    chain-ended : chain table ended ≡ on_line l (tape_on table l (rows ++ later))
    chain-ended =
        chain-closed table l ended lawful (is_on-with_close l (rows_of l (rows ++ later)) (of_line-on row_line l (rows ++ later))) (closes-with_close l (rows_of l (rows ++ later)))
        ∙ ap (λ runs. on_line l (record_tape table runs)) (record-with_close l (rows_of l (rows ++ later)))

    first-marks : IsPrefix (marks_on l (marks_of_rows table rows)) (tape_on table l (rows ++ later))
    first-marks =
        subst (λ ms. IsPrefix ms (tape_on table l (rows ++ later))) (sym line-marks)
        (subst (IsPrefix (whats_of (chain table own))) (ap whats_of chain-ended ∙ whats_of-on_line l (tape_on table l (rows ++ later)))
        (whats_of-prefix (chain table own) (chain table ended) (chain-prefix table own ended own-first)))

  open-marks : closes own ≡ false → marks_on l (marks_of_rows table rows) ≡ settled_tape table l rows
  open-marks open_ =
      line-marks
      ∙ ap whats_of (chain-open table l own lawful (of_line-on row_line l rows) open_)
      ∙ whats_of-on_line l (settled_tape table l rows)

  lacking-marks : closes own ≡ false → LackARefusalAtMost (marks_on l (marks_of_rows table rows)) (tape_on table l rows)
  lacking-marks open_ =
      subst (λ marks. LackARefusalAtMost marks (tape_on table l rows)) (sym (open-marks open_)) (settled-lacks table l rows)

-- the marks that the chain gives of rows keep its promises
pub chain_keeps_promises : (table : Table) → IsLawful table.limits → (rows : List LoopRow) (marks : List (On Mark))
    → marks ≡ marks_of_rows table rows → KeepsPromises table rows marks
chain_keeps_promises table lawful rows marks chain =
    subst (KeepsPromises table rows) (sym chain)
    (record {
      chain = refl;
      own_rows = λ l. marks_of_line table l rows;
      never_back = λ l later. first-marks table lawful rows l later;
      whole = λ l closed. whole-marks table lawful rows l closed;
      prompt = λ l open_. open-marks table lawful rows l open_;
      lacking = λ l open_. lacking-marks table lawful rows l open_;
    })

-- an office keeps its promises
pub keeps_promises : (office : Office) (rows : List LoopRow) (marks : List (On Mark)) → HasTaken office rows marks → KeepsPromises office.table rows marks
keeps_promises office rows marks taken = chain_keeps_promises office.table taken.lawful rows marks taken.chain
