-- The rows of each line, call by call.
use Rattle.std.proofs.Common.{◌≡◌, ℕ, zero, suc, ◌<◌, true, false, List, [], ◌∷◌, ◌++◌, map, length, get_or, set, refl, sym, ap, ◌∙◌, arith, append_assoc, append-nil, subst, eqb, eqb-true, eq-eqb, inl, inr, length-set, get_or-set_same, get_or-set_other}
use Rattle.std.specs.List.{All, AllByRecursion}
use Rattle.std.proofs.lemmas.Bool.{cases_Bool, cond-false, cond-true, eqb-false}
use Rattle.std.proofs.lemmas.List.{get_or-map, length-map, map-append, map-set}
use Rattle.std.proofs.lemmas.List.FromFn.{fill_by_all}
use Rattle.xb_model.specs.declared.line.TheConstants.{LINES}
use Rattle.xb_model.specs.Lines.{lines_below}
use Rattle.xb_model.specs.Records.{break}
use Rattle.xb_model.specs.Rows.{LoopRow, row_of}
use Rattle.xb_model.proofs.Lines.{of_line-append}
use Rattle.xb_calls.specs.Dialling.{on_line}
use Rattle.xb_worn.specs.SentCalls.{SentCall, call_runs, calls_on, line_rows, line_runs, sent_line}
use Rattle.xb_worn.specs.WornRows.{IsOnLine, hang_up_after, next_rows, rows_by_line, with_call, with_calls}

-- one call more, at the place of its line
pub place-call : {V : Type 0} (items : V → List LoopRow) (h : ℕ) (call : SentCall) (lines : List V) (line : ℕ)
    (old new : V)
    → line ≡ call.line → line < length lines → old ≡ get_or lines line old
    → items new ≡ next_rows h call (items old)
    → map items (set lines line new) ≡ with_call h call (map items lines)
place-call items h call lines line old new on below is rows =
    let lists = map items lines in
    let own : items old ≡ get_or lists line [] = ap items is ∙ sym (get_or-map items lines line old [] below) in
    map-set items lines line new
    ∙ ap (set lists line) (rows ∙ ap (next_rows h call) own)
    ∙ ap (λ l. set lists l (next_rows h call (get_or lists l []))) on

-- the runs of a line, with one call more
line_runs-more : (h : ℕ) (calls : List SentCall) (call : SentCall)
    → line_runs h (calls ++ call ∷ []) ≡ line_runs h calls ++ (hang_up_after calls h ++ call_runs call)
line_runs-more h [] call = refl
line_runs-more h (first ∷ []) call = refl
line_runs-more h (first ∷ next ∷ more) call =
    ap (λ runs. call_runs first ++ break h ∷ runs) (line_runs-more h (next ∷ more) call)
    ∙ sym (append_assoc (call_runs first) (break h ∷ line_runs h (next ∷ more)) (break h ∷ call_runs call))

-- there are rows where there are calls
hangs_up-rows : (h l : ℕ) (calls : List SentCall)
    → hang_up_after (on_line l (line_runs h calls)) h ≡ hang_up_after calls h
hangs_up-rows h l [] = refl
hangs_up-rows h l (call ∷ []) = refl
hangs_up-rows h l (call ∷ next ∷ more) = refl

-- the calls of a line, with one more of the line or of another
calls-here : (calls : List SentCall) (call : SentCall) (l : ℕ) → eqb call.line l ≡ true
    → calls_on l (calls ++ call ∷ []) ≡ calls_on l calls ++ call ∷ []
calls-here calls call l on =
    of_line-append sent_line l calls (call ∷ []) ∙ ap (λ own. calls_on l calls ++ own) (cond-true _ _ _ on)

calls-other : (calls : List SentCall) (call : SentCall) (l : ℕ) → eqb call.line l ≡ false
    → calls_on l (calls ++ call ∷ []) ≡ calls_on l calls
calls-other calls call l off =
    of_line-append sent_line l calls (call ∷ []) ∙ ap (λ own. calls_on l calls ++ own) (cond-false _ _ _ off)
    ∙ append-nil (calls_on l calls)

-- the rows of a line, with one call more of it
rows-here : (h : ℕ) (calls : List SentCall) (call : SentCall)
    → next_rows h call (line_rows h calls call.line) ≡ line_rows h (calls ++ call ∷ []) call.line
rows-here h calls call =
    let l : ℕ = call.line in
    let own = calls_on l calls in
    ap (λ hang_up. line_rows h calls l ++ on_line l (hang_up ++ call_runs call)) (hangs_up-rows h l own)
    ∙ sym (map-append (λ run. row_of l run.contact run.ms) (line_runs h own) (hang_up_after own h ++ call_runs call))
    ∙ ap (on_line l) (sym (line_runs-more h own call))
    ∙ ap (λ all. on_line l (line_runs h all)) (sym (calls-here calls call l (eq-eqb l l refl)))

-- at the place of each line stand its rows
record AreRows (h : ℕ) (calls : List SentCall) (lists : List (List LoopRow)) : Type 0 where
  long : length lists ≡ LINES
  rows : (l : ℕ) → l < LINES → get_or lists l [] ≡ line_rows h calls l

-- one call more
rows-more : (h : ℕ) (calls : List SentCall) (call : SentCall) (lists : List (List LoopRow))
    → AreRows h calls lists → call.line < LINES
    → AreRows h (calls ++ call ∷ []) (with_call h call lists)
rows-more h calls call lists are low =
    let below : call.line < length lists = omega (arith, low, are.long) in
    let next : List LoopRow = next_rows h call (get_or lists call.line []) in
    record {
      long = length-set lists call.line next ∙ are.long;
      rows = λ l under. elim (cases_Bool (eqb call.line l)) [
        | inl on ↦
            let here : call.line ≡ l = eqb-true call.line l on in
            ap (λ k. get_or (set lists call.line next) k []) (sym here)
            ∙ get_or-set_same lists call.line next [] below
            ∙ ap (next_rows h call) (are.rows call.line low)
            ∙ rows-here h calls call
            ∙ ap (line_rows h (calls ++ call ∷ [])) here
        | inr off ↦
            get_or-set_other lists call.line l next [] (λ w. eqb-false call.line l off (sym w))
            ∙ are.rows l under
            ∙ ap (λ all. on_line l (line_runs h all)) (sym (calls-other calls call l off))
      ];
    }

-- and all that follow
rows-all : (h : ℕ) (calls later : List SentCall) (lists : List (List LoopRow))
    → AreRows h calls lists → AllByRecursion IsOnLine later
    → AreRows h (calls ++ later) (with_calls h later lists)
rows-all h calls [] lists are low = subst (λ all. AreRows h all lists) (sym (append-nil calls)) are
rows-all h calls (call ∷ later) lists are low =
    subst (λ all. AreRows h all (with_calls h later (with_call h call lists)))
    (append_assoc calls (call ∷ []) later)
    (rows-all h (calls ++ call ∷ []) later (with_call h call lists) (rows-more h calls call lists are low.0) low.1)

-- no call, no rows
rows-none : {V : Type 0} (items : V → List LoopRow) (h : ℕ) (lines : List V) → length lines ≡ LINES
    → All (λ v. items v ≡ []) lines
    → AreRows h [] (map items lines)
rows-none {V} items h lines long none =
    record {
      long = length-map lines items ∙ long;
      rows = λ l low. none_at lines l none;
    }
  where
    none_at : (vs : List V) (l : ℕ) → All (λ v. items v ≡ []) vs → get_or (map items vs) l [] ≡ []
    none_at [] l none = refl
    none_at (v ∷ vs) zero none = none 0 v (omega arith)
    none_at (v ∷ vs) (suc l) none = none_at vs l (λ k d below. none (suc k) d (omega (arith, below)))

-- calls after no rows give the rows of each line
pub with_calls-all : {V : Type 0} (items : V → List LoopRow) (h : ℕ) (calls : List SentCall) (lines : List V)
    → length lines ≡ LINES → All (λ v. items v ≡ []) lines → AllByRecursion IsOnLine calls
    → with_calls h calls (map items lines) ≡ rows_by_line h calls
unfolding lines_below
with_calls-all items h calls lines long none low =
    let are = rows-all h [] calls (map items lines) (rows-none items h lines long none) low in
    fill_by_all (line_rows h calls) (with_calls h calls (map items lines)) LINES [] are.long
    (λ l under. are.rows l under)
