-- Rows that are taken one after another, each by the runs of its line.
use Rattle.std.proofs.Common.{map, zero, suc, ◌≡◌, ◌<◌, ◌≤◌, ℕ, ◌+◌, ◌*◌, List, [], ◌∷◌, ◌++◌, Bool, true, false, eqb, ◌==◌, refl, sym, ap, ◌∙◌, arith, length, get_or, set, subst, ⊎_elim, append_assoc, append-nil, eqb-true, get_or-set_same, get_or-set_other}
use Rattle.std.specs.List.{All}
use Rattle.std.proofs.lemmas.Bool.{cases_Bool, eqb-false}
use Rattle.std.proofs.lemmas.List.{get_or-map, length-map, map-set}
use Rattle.xb_model.specs.declared.line.TheConstants.{LINES}
use Rattle.xb_model.specs.declared.row.TheConstants.{GREATEST_MS}
use Rattle.xb_model.specs.Rows.{LoopRow}
use Rattle.xb_heard.specs.declared.run.PlacedRun.{PlacedRun}
use Rattle.xb_heard.specs.PlacedRuns.{end_of, placed_runs, runs_after}
use Rattle.xb_heard.proofs.JoinedAfter.{joined_after-none}

-- runs are those that rows of all lines make of line l, and whatever comes later makes the rest of them
pub record IsTaken (l n : ℕ) (taken : List LoopRow) (runs : List PlacedRun) (closed : Bool) : Type 0 where
  pub follows : (rows : List LoopRow) → runs_after runs closed l (n + 1) rows ≡ placed_runs l (taken ++ rows)
  pub within : end_of runs ≤ n * GREATEST_MS

pub taken-start : (l : ℕ) → IsTaken l 0 [] [] false
taken-start l = record { follows = λ rows. refl; within = omega arith }

-- no row is left
pub taken-end : (l n : ℕ) (taken : List LoopRow) (runs : List PlacedRun) (closed : Bool) → IsTaken l n taken runs closed
    → runs ≡ placed_runs l taken
taken-end l n taken runs closed is = by closed ∙ is.follows [] ∙ ap (λ rows. placed_runs l rows) (append-nil taken)
  where
    by : (b : Bool) → runs ≡ runs_after runs b l (n + 1) []
    by true = refl
    by false = sym (joined_after-none runs)

module _ (l n : ℕ) (taken : List LoopRow) (row : LoopRow) (runs : List PlacedRun) (closed : Bool) (is : IsTaken l n taken runs closed) where
  -- a row of the line more
  pub taken-here : (runs' : List PlacedRun) (closed' : Bool) → row.line ≡ l
      → ((rows : List LoopRow) → runs_after runs' closed' row.line (n + 1 + 1) rows
      ≡ runs_after runs closed row.line (n + 1) (row ∷ rows))
      → end_of runs' ≤ end_of runs + GREATEST_MS → IsTaken l (n + 1) (taken ++ row ∷ []) runs' closed'
  taken-here runs' closed' on step ends = record {
    follows = λ rows. subst (λ k. runs_after runs' closed' k (n + 1 + 1) rows ≡ runs_after runs closed k (n + 1) (row ∷ rows)) on (step rows)
        ∙ is.follows (row ∷ rows)
        ∙ ap (λ all. placed_runs l all) (sym (append_assoc taken (row ∷ []) rows));
    within = omega (arith, is.within, ends);
  }

  -- a row of another line more
  pub taken-other : (row.line == l) ≡ false → IsTaken l (n + 1) (taken ++ row ∷ []) runs closed
  taken-other off = record {
    follows = λ rows. by closed rows
        ∙ is.follows (row ∷ rows)
        ∙ ap (λ all. placed_runs l all) (sym (append_assoc taken (row ∷ []) rows));
    within = omega (arith, is.within);
  }
    where
      by : (b : Bool) (rows : List LoopRow) → runs_after runs b l (n + 1 + 1) rows ≡ runs_after runs b l (n + 1) (row ∷ rows)
      by true rows = refl
      by false rows = rw off refl

-- so it is of every line
abbrev pub AreTaken : ℕ → List LoopRow → List (List PlacedRun) → List Bool → Type 0
AreTaken n taken lines closed = (l : ℕ) (runs : List PlacedRun) (b : Bool) → l < LINES
    → IsTaken l n taken (get_or lines l runs) (get_or closed l b)

none-at : {V : Type 0} (items : V → List PlacedRun) (lists : List V) (runs : List PlacedRun) (l : ℕ) → l < length lists
    → All (λ v. items v ≡ []) lists → get_or (map items lists) l runs ≡ []
none-at items [] runs l h none = absurd (omega (arith, h))
none-at items (v ∷ lists) runs zero h none = none 0 v (omega arith)
none-at items (v ∷ lists) runs (suc l) h none =
    none-at items lists runs l (omega (arith, h)) (λ k d below. none (suc k) d (omega (arith, below)))

-- before the first row
pub are-taken-start : {V : Type 0} (items : V → List PlacedRun) (lines : List V) (closed : List Bool) → length lines ≡ LINES
    → length closed ≡ LINES → All (λ v. items v ≡ []) lines → All (λ b. b ≡ false) closed → AreTaken 0 [] (map items lines) closed
are-taken-start items lines closed every all none opened = λ l runs b h.
    let no_runs : get_or (map items lines) l runs ≡ [] = none-at items lines runs l (omega (arith, every, h)) none in
    let not_closed : get_or closed l b ≡ false = opened l b (omega (arith, all, h)) in
    subst (λ R. IsTaken l 0 [] R (get_or closed l b)) (sym no_runs)
    (subst (λ c. IsTaken l 0 [] [] c) (sym not_closed) (taken-start l))

-- a row more, which its line takes
pub are-taken-more : (n : ℕ) (taken : List LoopRow) (row : LoopRow) (lines : List (List PlacedRun)) (closed : List Bool)
    (runs' : List PlacedRun) (closed' : Bool) → length lines ≡ LINES → length closed ≡ LINES → row.line < LINES
    → AreTaken n taken lines closed → IsTaken row.line (n + 1) (taken ++ row ∷ []) runs' closed'
    → AreTaken (n + 1) (taken ++ row ∷ []) (set lines row.line runs') (set closed row.line closed')
are-taken-more n taken row lines closed runs' closed' every all below are here = λ l runs b h.
    ⊎_elim
    (λ t.
    let same : row.line ≡ l = eqb-true row.line l t in
    let its_runs : runs' ≡ get_or (set lines row.line runs') l runs =
    sym (ap (λ k. get_or (set lines k runs') l runs) same ∙ get_or-set_same lines l runs' runs (omega (arith, every, h))) in
    let its_close : closed' ≡ get_or (set closed row.line closed') l b =
    sym (ap (λ k. get_or (set closed k closed') l b) same ∙ get_or-set_same closed l closed' b (omega (arith, all, h))) in
    subst (λ k. IsTaken k (n + 1) (taken ++ row ∷ []) (get_or (set lines row.line runs') l runs) (get_or (set closed row.line closed') l b)) same
    (subst (λ c. IsTaken row.line (n + 1) (taken ++ row ∷ []) (get_or (set lines row.line runs') l runs) c) its_close
    (subst (λ R. IsTaken row.line (n + 1) (taken ++ row ∷ []) R closed') its_runs here)))
    (λ f.
    let its_runs : get_or lines l runs ≡ get_or (set lines row.line runs') l runs =
    sym (get_or-set_other lines row.line l runs' runs (λ e. eqb-false row.line l f (sym e))) in
    let its_close : get_or closed l b ≡ get_or (set closed row.line closed') l b =
    sym (get_or-set_other closed row.line l closed' b (λ e. eqb-false row.line l f (sym e))) in
    subst (λ c. IsTaken l (n + 1) (taken ++ row ∷ []) (get_or (set lines row.line runs') l runs) c) its_close
    (subst (λ R. IsTaken l (n + 1) (taken ++ row ∷ []) R (get_or closed l b)) its_runs
    (taken-other l n taken row (get_or lines l runs) (get_or closed l b) (are l runs b h) f)))
    (cases_Bool (eqb row.line l))

-- the lists of the lines after a row more
module _ {V : Type 0} (items : V → List PlacedRun) (n : ℕ) (taken : List LoopRow) (row : LoopRow) (lines : List V) (closed : List Bool)
    (list : V) (b : Bool) (k : ℕ) (on : k ≡ row.line) (every : length lines ≡ LINES) (all : length closed ≡ LINES) (below : k < LINES)
    (list_is : (d : V) → list ≡ get_or lines k d) (b_is : (d : Bool) → b ≡ get_or closed k d)
    (are : AreTaken n taken (map items lines) closed) where
  pub its : IsTaken k n taken (items list) b
  its =
      let mapped : get_or (map items lines) k [] ≡ items list =
      get_or-map items lines k list [] (omega (arith, below, every)) ∙ ap items (sym (list_is list)) in
      subst (λ R. IsTaken k n taken R b) mapped
      (subst (λ c. IsTaken k n taken (get_or (map items lines) k []) c) (sym (b_is b)) (are k [] b below))

  pub lists-more : (list' : V) (closed' : Bool)
      → ((rows : List LoopRow) → runs_after (items list') closed' row.line (n + 1 + 1) rows
      ≡ runs_after (items list) b row.line (n + 1) (row ∷ rows))
      → end_of (items list') ≤ end_of (items list) + GREATEST_MS
      → AreTaken (n + 1) (taken ++ row ∷ []) (map items (set lines k list')) (set closed k closed')
  lists-more list' closed' step ends =
      let here : IsTaken k (n + 1) (taken ++ row ∷ []) (items list') closed' =
      taken-here k n taken row (items list) b its (items list') closed' (sym on) step ends in
      let more : AreTaken (n + 1) (taken ++ row ∷ []) (set (map items lines) row.line (items list')) (set closed row.line closed') =
      are-taken-more n taken row (map items lines) closed (items list') closed' (length-map lines items ∙ every) all
      (subst (λ j. j < LINES) on below) are (subst (λ j. IsTaken j (n + 1) (taken ++ row ∷ []) (items list') closed') on here) in
      subst (λ (R : List (List PlacedRun)). AreTaken (n + 1) (taken ++ row ∷ []) R (set closed k closed')) (sym (map-set items lines k list'))
      (subst (λ j. AreTaken (n + 1) (taken ++ row ∷ []) (set (map items lines) j (items list')) (set closed j closed')) (sym on) more)
