-- The rows of each line, call by call.
use Rattle.std.proofs.Common.{◌≡◌, ℕ, zero, suc, ◌<◌, false, List, [], ◌∷◌, ◌++◌, map, length, get_or, set, refl, sym, ap, ◌∙◌, arith, append_assoc, append-nil, subst, eqb, eqb-true, eq-eqb, inl, inr, length-set, get_or-set_same, get_or-set_other}
use Rattle.std.specs.List.{All}
use Rattle.std.proofs.lemmas.Bool.{cases_Bool, eqb-false, cond-true, cond-false}
use Rattle.std.proofs.lemmas.List.{get_or-map, length-map, map-append, map-set}
use Rattle.std.proofs.lemmas.List.FromFn.{fill_by_all}
use Rattle.xb_model.specs.declared.line.TheConstants.{LINES}
use Rattle.xb_model.specs.Lines.{lines_below, of_line}
use Rattle.xb_model.specs.Records.{break}
use Rattle.xb_model.specs.Rows.{LoopRow, row_of}
use Rattle.xb_model.proofs.Lines.{of_line-append}
use Rattle.xb_calls.specs.declared.speed.Speed.{Speed}
use Rattle.xb_calls.specs.Calls.{DialledCall}
use Rattle.xb_calls.specs.Dialling.{call_line, call_runs, line_rows, line_runs, numbers_on, on_line, rows_by_line}
use Rattle.xb_calls.specs.LineRows.{AddsCall, hang_up_after}

-- one number more
line_runs-more : (speed : Speed) (numbers : List (List ℕ)) (number : List ℕ)
    → line_runs speed (numbers ++ number ∷ [])
    ≡ line_runs speed numbers ++ (hang_up_after numbers speed ++ call_runs speed number)
line_runs-more speed [] number = refl
line_runs-more speed (first ∷ []) number = refl
line_runs-more speed (first ∷ next ∷ more) number =
    ap (λ runs. call_runs speed first ++ break speed.hang_up_ms ∷ runs)
    (line_runs-more speed (next ∷ more) number)
    ∙ sym (append_assoc (call_runs speed first) (break speed.hang_up_ms ∷ line_runs speed (next ∷ more))
    (break speed.hang_up_ms ∷ call_runs speed number))

-- there are rows where there are numbers
hangs_up-rows : (speed : Speed) (l : ℕ) (numbers : List (List ℕ))
    → hang_up_after (on_line l (line_runs speed numbers)) speed ≡ hang_up_after numbers speed
hangs_up-rows speed l [] = refl
hangs_up-rows speed l (number ∷ []) = refl
hangs_up-rows speed l (number ∷ next ∷ more) = refl

-- the numbers of a line, with one more of the line or of another
numbers-here : (calls : List DialledCall) (call : DialledCall) (l : ℕ) → call.line ≡ l
    → numbers_on l (calls ++ call ∷ []) ≡ numbers_on l calls ++ call.digits ∷ []
numbers-here calls call l on =
    ap (map (λ c. c.digits)) (of_line-append call_line l calls (call ∷ []))
    ∙ map-append (λ c. c.digits) (of_line call_line l calls) (of_line call_line l (call ∷ []))
    ∙ ap (λ own. numbers_on l calls ++ map (λ c. c.digits) own) (cond-true _ _ _ (eq-eqb call.line l on))

numbers-other : (calls : List DialledCall) (call : DialledCall) (l : ℕ) → eqb call.line l ≡ false
    → numbers_on l (calls ++ call ∷ []) ≡ numbers_on l calls
numbers-other calls call l off =
    ap (map (λ c. c.digits)) (of_line-append call_line l calls (call ∷ [])
    ∙ ap (λ own. of_line call_line l calls ++ own) (cond-false _ _ _ off)
    ∙ append-nil (of_line call_line l calls))

-- the rows of a line, with one call more of it or of another
rows-here : (speed : Speed) (calls : List DialledCall) (call : DialledCall) (rows : List LoopRow)
    → AddsCall speed call (line_rows speed calls call.line) rows
    → rows ≡ line_rows speed (calls ++ call ∷ []) call.line
rows-here speed calls call rows adds =
    let l = call.line in
    let numbers = numbers_on l calls in
    adds
    ∙ ap (λ hang_up. line_rows speed calls l ++ on_line l (hang_up ++ call_runs speed call.digits))
    (hangs_up-rows speed l numbers)
    ∙ sym (map-append (λ run. row_of l run.contact run.ms) (line_runs speed numbers)
    (hang_up_after numbers speed ++ call_runs speed call.digits))
    ∙ ap (on_line l) (sym (line_runs-more speed numbers call.digits))
    ∙ ap (λ all. on_line l (line_runs speed all)) (sym (numbers-here calls call l refl))

rows-other : (speed : Speed) (calls : List DialledCall) (call : DialledCall) (l : ℕ) → eqb call.line l ≡ false
    → line_rows speed calls l ≡ line_rows speed (calls ++ call ∷ []) l
rows-other speed calls call l off = ap (λ all. on_line l (line_runs speed all))
    (sym (numbers-other calls call l off))

-- at the place of each line stand its rows
pub record AreLineRows (speed : Speed) (calls : List DialledCall) (lines : List (List LoopRow)) : Type 0 where
  pub lines_is : length lines ≡ LINES
  pub rows : (l : ℕ) → l < LINES → get_or lines l [] ≡ line_rows speed calls l

module _ {V : Type 0} (items : V → List LoopRow) where
  -- one call more
  more-at : (speed : Speed) (calls : List DialledCall) (call : DialledCall) (lines : List V) (old new : V)
      → AreLineRows speed calls (map items lines) → call.line < LINES → old ≡ get_or lines call.line old
      → AddsCall speed call (items old) (items new)
      → AreLineRows speed (calls ++ call ∷ []) (map items (set lines call.line new))
  more-at speed calls call lines old new are below is adds =
      let lists = map items lines in
      let same : map items (set lines call.line new)
      ≡ set lists call.line (items new) = map-set items lines call.line new in
      let long : call.line < length lists = omega (arith, below, are.lines_is) in
      let short : call.line < length lines = omega (arith, long, length-map lines items) in
      let own : items old ≡ line_rows speed calls call.line =
      ap items is ∙ sym (get_or-map items lines call.line old [] short) ∙ are.rows call.line below in
      subst (AreLineRows speed (calls ++ call ∷ [])) (sym same)
      (more speed calls call lists (items new) are long
      (subst (λ rows. AddsCall speed call rows (items new)) own adds))
    where
      more : (speed : Speed) (calls : List DialledCall) (call : DialledCall) (lists : List (List LoopRow))
          (rows : List LoopRow)
          → AreLineRows speed calls lists → call.line < length lists
          → AddsCall speed call (line_rows speed calls call.line) rows
          → AreLineRows speed (calls ++ call ∷ []) (set lists call.line rows)
      more speed calls call lists rows are long adds =
          record {
            lines_is = length-set lists call.line rows ∙ are.lines_is;
            rows = λ l low. elim (cases_Bool (eqb call.line l)) [
              | inl on ↦
                  let here : call.line ≡ l = eqb-true call.line l on in
                  ap (λ k. get_or (set lists call.line rows) k []) (sym here)
                  ∙ get_or-set_same lists call.line rows [] long ∙ rows-here speed calls call rows adds
                  ∙ ap (line_rows speed (calls ++ call ∷ [])) here
              | inr off ↦
                  get_or-set_other lists call.line l rows [] (λ w. eqb-false call.line l off (sym w))
                  ∙ are.rows l low ∙ rows-other speed calls call l off
            ];
          }

  pub AreLineRows-more : (speed : Speed) (calls : List DialledCall) (call : DialledCall) (lines : List V)
      (line : ℕ) (old new : V)
      → AreLineRows speed calls (map items lines) → line ≡ call.line → line < LINES
      → old ≡ get_or lines line old
      → AddsCall speed call (items old) (items new)
      → AreLineRows speed (calls ++ call ∷ []) (map items (set lines line new))
  AreLineRows-more speed calls call lines line old new are on below is adds =
      subst (λ l. AreLineRows speed (calls ++ call ∷ []) (map items (set lines l new))) (sym on)
      (more-at speed calls call lines old new are (subst (λ l. l < LINES) on below)
      (subst (λ l. old ≡ get_or lines l old) on is) adds)

-- no call, no rows
pub AreLineRows-none : {W : Type 0} (items : W → List LoopRow) (speed : Speed) (lines : List W)
    → length lines ≡ LINES
    → All (λ v. items v ≡ []) lines → AreLineRows speed [] (map items lines)
AreLineRows-none {W} items speed lines long none =
    record {
      lines_is = length-map lines items ∙ long;
      rows = λ l low. none_at lines l none;
    }
  where
    none_at : (lists : List W) (l : ℕ) → All (λ v. items v ≡ []) lists → get_or (map items lists) l [] ≡ []
    none_at [] l none = refl
    none_at (v ∷ lists) zero none = none 0 v (omega arith)
    none_at (v ∷ lists) (suc l) none = none_at lists l (λ k d h. none (suc k) d (omega (arith, h)))

-- the rows of all lines
pub AreLineRows-all : (speed : Speed) (calls : List DialledCall) (lines : List (List LoopRow))
    → AreLineRows speed calls lines
    → lines ≡ rows_by_line speed calls
unfolding lines_below
AreLineRows-all speed calls lines are =
    fill_by_all (line_rows speed calls) lines LINES [] are.lines_is (λ l low. are.rows l low)
