-- What is left to be fed, one row after another.
use Rattle.std.proofs.Common.{◌≡◌, ◌≢◌, ℕ, ◌<◌, ◌&&◌, ◌||◌, not, Bool, true, false, cond, eqb, List, [], ◌∷◌, ◌++◌, map, length, get_or, set, Option, Some, None, refl, sym, ap, ◌∙◌, ⊎_elim, eqb-true, append_assoc, arith}
use Rattle.std.specs.List.{filter}
use Rattle.std.proofs.lemmas.Bool.{cases_Bool, cond-true, cond-false, eqb-false}
use Rattle.std.proofs.lemmas.List.Elements.{filter_agree}
use Rattle.xb_model.specs.declared.fault.RowFault.{RowFault}
use Rattle.xb_model.specs.declared.line.TheConstants.{LINES}
use Rattle.xb_model.specs.Lines.{row_line, lines_below}
use Rattle.xb_model.specs.Rows.{LoopRow, close_row}
use Rattle.xb_model.specs.Records.{is_close, rows_of}
use Rattle.xb_model.proofs.Lines.{of_line-here, of_line-other}
use Rattle.xb_closes.specs.declared.line_use.LineUse.{LineUse}
use Rattle.xb_closes.specs.declared.line_use.LineUse.TheVariants.{NoRows, Closed}
use Rattle.xb_closes.specs.Fed.{without, after, kept, fed, closings}
use Rattle.xb_closes.specs.LineUses.{is_closed, is_open_use, next_use, use_after, use_at}
use Rattle.xb_closes.specs.Left.{kept_in, open_after, closings_in, left}
use Rattle.xb_closes.proofs.Filters.{filter_twice, filter_all, none_passes, first_passes}
use Rattle.xb_closes.proofs.Uses.{closed_next, open_after_none, use_at-set, use_at-other}

-- whether a row of line k is still heard
abbrev heard : List LineUse → ℕ → Bool
heard uses k = not (is_closed (use_at uses k))

-- after row x, its line alone may have another use
module _ (uses uses' : List LineUse) (x : LoopRow)
    (here : use_at uses' x.line ≡ next_use (use_at uses x.line) x.contact)
    (other : (k : ℕ) → k ≢ x.line → use_at uses' k ≡ use_at uses k) where
  at_line : (k : ℕ) → eqb k x.line ≡ true → use_at uses' k ≡ next_use (use_at uses k) x.contact
  at_line k t = let e : k ≡ x.line = eqb-true _ _ t in ap (use_at uses') e ∙ here ∙ ap (λ l. next_use (use_at uses l) x.contact) (sym e)

  closed_then : (k : ℕ) → eqb k x.line ≡ true → heard uses' k ≡ not (is_closed (use_at uses k) || is_close x.contact)
  closed_then k t = ap (λ u. not (is_closed u)) (at_line k t) ∙ ap not (closed_next (use_at uses k) x.contact)

  heard_after_close : is_close x.contact ≡ true → (k : ℕ) → (not (eqb k x.line) && heard uses k) ≡ heard uses' k
  heard_after_close c k =
      ⊎_elim
      (λ t. rw t (sym (closed_then k t ∙ ap (λ b. not (is_closed (use_at uses k) || b)) c ∙ or_true (is_closed (use_at uses k)))))
      (λ f. rw f (sym (ap (λ u. not (is_closed u)) (other k (eqb-false _ _ f)))))
      (cases_Bool (eqb k x.line))
    where
      or_true : (b : Bool) → not (b || true) ≡ false
      or_true true = refl
      or_true false = refl

  heard_after_other : is_close x.contact ≡ false → (k : ℕ) → heard uses k ≡ heard uses' k
  heard_after_other c k =
      ⊎_elim
      (λ t. sym (closed_then k t ∙ ap (λ b. not (is_closed (use_at uses k) || b)) c ∙ ap not (or_false (is_closed (use_at uses k)))))
      (λ f. sym (ap (λ u. not (is_closed u)) (other k (eqb-false _ _ f))))
      (cases_Bool (eqb k x.line))
    where
      or_false : (b : Bool) → (b || false) ≡ b
      or_false true = refl
      or_false false = refl

  kept_after : (rows : List LoopRow) → filter (λ row. heard uses row.line) (after x (kept rows)) ≡ kept_in uses' rows
  kept_after rows =
      let p : LoopRow → Bool = λ (row : LoopRow). heard uses row.line in
      let q : LoopRow → Bool = λ (row : LoopRow). not (eqb row.line x.line) in
      let p' : LoopRow → Bool = λ (row : LoopRow). heard uses' row.line in
      ⊎_elim
      (λ t.
      ap (filter p) (cond-true _ _ _ t)
      ∙ filter_twice p q (kept rows)
      ∙ filter_agree (λ row. q row && p row) p' (λ row. heard_after_close t row.line) (kept rows))
      (λ f. ap (filter p) (cond-false _ _ _ f) ∙ filter_agree p p' (λ row. heard_after_other f row.line) (kept rows))
      (cases_Bool (is_close x.contact))

  kept_in-row : (rows : List LoopRow) → kept_in uses (x ∷ rows) ≡ cond (heard uses x.line) (x ∷ []) [] ++ kept_in uses' rows
  kept_in-row rows =
      ⊎_elim
      (λ t. cond-true _ _ _ t ∙ ap (λ ys. x ∷ ys) (kept_after rows) ∙ ap (λ b. cond b (x ∷ []) [] ++ kept_in uses' rows) (sym t))
      (λ f. cond-false _ _ _ f ∙ kept_after rows ∙ ap (λ b. cond b (x ∷ []) [] ++ kept_in uses' rows) (sym f))
      (cases_Bool (heard uses x.line))

  open_after-row : (rows : List LoopRow) (k : ℕ) → open_after uses (x ∷ rows) k ≡ open_after uses' rows k
  open_after-row rows k =
      ⊎_elim
      (λ t.
      let e : k ≡ x.line = sym (eqb-true _ _ t) in
      ap (λ ys. is_open_use (use_after (use_at uses k) ys)) (of_line-here row_line k x rows t)
      ∙ ap (λ u. is_open_use (use_after u (rows_of k rows)))
      (ap (λ l. next_use (use_at uses l) x.contact) e ∙ sym here ∙ ap (use_at uses') (sym e)))
      (λ f.
      let far : k ≢ x.line = λ w. eqb-false _ _ f (sym w) in
      ap (λ ys. is_open_use (use_after (use_at uses k) ys)) (of_line-other row_line k x rows f)
      ∙ ap (λ u. is_open_use (use_after u (rows_of k rows))) (sym (other k far)))
      (cases_Bool (eqb x.line k))

  closings_in-row : (rows : List LoopRow) (stop : Option RowFault) → closings_in uses (x ∷ rows) stop ≡ closings_in uses' rows stop
  closings_in-row rows None = ap (map close_row) (filter_agree _ _ (open_after-row rows) (lines_below LINES))
  closings_in-row rows (Some fault) = refl

  -- of this row and further ones, what is left is the row where its line is not closed, and then what
  -- is left of the further ones
  pub left-row : (rows : List LoopRow) (stop : Option RowFault)
      → left uses (x ∷ rows) stop ≡ cond (heard uses x.line) (x ∷ []) [] ++ left uses' rows stop
  unfolding left
  left-row rows stop =
      ap (λ ys. ys ++ closings_in uses (x ∷ rows) stop) (kept_in-row rows)
      ∙ ap (λ ys. (cond (heard uses x.line) (x ∷ []) [] ++ kept_in uses' rows) ++ ys) (closings_in-row rows stop)
      ∙ append_assoc (cond (heard uses x.line) (x ∷ []) []) (kept_in uses' rows) (closings_in uses' rows stop)

-- line l is the first that is open: its close is next
pub left-close : (uses : List LineUse) (l : ℕ) → ((k : ℕ) → k < l → is_open_use (use_at uses k) ≡ false)
    → is_open_use (use_at uses l) ≡ true → l < LINES → l < length uses
    → left uses [] None ≡ close_row l ∷ left (set uses l Closed) [] None
unfolding left lines_below
left-close uses l below at small within =
    ap (map close_row)
    (first_passes (λ k. is_open_use (use_at uses k)) (λ k. is_open_use (use_at (set uses l Closed) k)) l below at
    (ap is_open_use (use_at-set uses l Closed within)) (λ k far. ap is_open_use (use_at-other uses l Closed k far)) 0 LINES (omega arith) small)

-- no line is open: nothing is left
pub left-end : (uses : List LineUse) → ((k : ℕ) → k < LINES → is_open_use (use_at uses k) ≡ false) → left uses [] None ≡ []
unfolding left lines_below
left-end uses below = ap (map close_row) (none_passes (λ k. is_open_use (use_at uses k)) 0 LINES below)

-- a fault leaves nothing
pub left-fault : (uses : List LineUse) (fault : RowFault) → left uses [] (Some fault) ≡ []
unfolding left
left-fault uses fault = refl

-- at first no line has rows
module _ (uses : List LineUse) (fresh : (k : ℕ) → use_at uses k ≡ NoRows) where
  closings_in-fresh : (rows : List LoopRow) (stop : Option RowFault) → closings_in uses rows stop ≡ closings rows stop
  closings_in-fresh rows None =
      ap (map close_row)
      (filter_agree _ _ (λ k. ap (λ u. is_open_use (use_after u (rows_of k rows))) (fresh k) ∙ open_after_none (rows_of k rows)) (lines_below LINES))
  closings_in-fresh rows (Some fault) = refl

  -- and all is left that is fed
  pub left-fresh : (rows : List LoopRow) (stop : Option RowFault) → left uses rows stop ≡ fed rows stop
  unfolding left
  left-fresh rows stop =
      ap (λ ys. ys ++ closings_in uses rows stop) (filter_all _ (kept rows) (λ row. ap (λ u. not (is_closed u)) (fresh row.line)))
      ∙ ap (λ ys. kept rows ++ ys) (closings_in-fresh rows stop)

-- the same of a table of uses whose place of the row's line is set
pub left-set : (uses : List LineUse) (x : LoopRow) (l : ℕ) (before value : LineUse) (heard : Bool) → l ≡ x.line → l < length uses
    → ((d : LineUse) → before ≡ get_or uses l d) → value ≡ next_use before x.contact → heard ≡ not (is_closed before)
    → (rows : List LoopRow) (stop : Option RowFault) → left uses (x ∷ rows) stop ≡ cond heard (x ∷ []) [] ++ left (set uses l value) rows stop
left-set uses x l before value heard on within read next is rows stop =
    let at : before ≡ use_at uses x.line = read NoRows ∙ ap (use_at uses) on in
    left-row uses (set uses l value) x
    (ap (use_at (set uses l value)) (sym on) ∙ use_at-set uses l value within ∙ next ∙ ap (λ u. next_use u x.contact) at)
    (λ k far. use_at-other uses l value k (λ e. far (e ∙ on))) rows stop
    ∙ ap (λ b. cond b (x ∷ []) [] ++ left (set uses l value) rows stop) (sym (is ∙ ap (λ u. not (is_closed u)) at))
