-- The rows of one call by itself.
use Rattle.std.proofs.Common.{◌≡◌, ◌≢◌, ◌∙◌, ℕ, zero, suc, ◌<◌, ◌≤◌, Bool, true, false, List, [], ◌∷◌, ◌++◌, map, ap, ap₂, eqb, eqb-true, refl, sym, add-one, append-nil, arith}
use Rattle.std.proofs.lemmas.Bool.{eqb-false}
use Rattle.std.proofs.lemmas.Grind.{flat_map-append}
use Rattle.std.proofs.lemmas.List.{map-append}
use Rattle.xb_calls.specs.declared.order.RowOrder.TheVariants.{ByLine}
use Rattle.xb_calls.specs.declared.speed.Speed.{Speed}
use Rattle.xb_calls.specs.Calls.{DialledCall, call_of}
use Rattle.xb_calls.specs.Dialling.{call_runs, dialled, joined_lists, line_rows, on_line}
use Rattle.xb_calls.specs.Speeds.{ten_pulses_a_second}
use Rattle.xb_model.specs.declared.line.TheConstants.{LINES}
use Rattle.xb_model.specs.Lines.{lines_below}
use Rattle.xb_model.specs.Rows.{LoopRow}
use Rattle.xb_model.proofs.LinesBelow.{lines_below-more, lines_below-none}

-- lists of which each but that of line l is empty
module _ (own : ℕ → List LoopRow) (l : ℕ) (others : (k : ℕ) → eqb l k ≡ false → own k ≡ []) where
  abbrev below : ℕ → List LoopRow
  below n = joined_lists (map own (lines_below n))

  below-more : (n : ℕ) → below (suc n) ≡ below n ++ own n
  below-more n =
      ap below (sym (add-one n)) ∙ ap (λ lines. joined_lists (map own lines)) (lines_below-more n)
      ∙ ap joined_lists (map-append own (lines_below n) (n ∷ []))
      ∙ flat_map-append (λ xs. xs) (map own (lines_below n)) (own n ∷ [])
      ∙ ap (λ rows. below n ++ rows) (append-nil (own n))

  none-below : (n : ℕ) → n ≤ l → below n ≡ []
  none-below zero few = ap (λ lines. joined_lists (map own lines)) lines_below-none
  none-below (suc n) few =
      below-more n ∙ ap₂ (λ xs ys. xs ++ ys) (none-below n (omega arith)) (others n (apart (eqb l n) refl))
    where
      apart : (same : Bool) → eqb l n ≡ same → eqb l n ≡ false
      apart false e = e
      apart true e = absurd (let is : l ≡ n = eqb-true l n e in omega (arith, is, few))

  pub own-below : (n : ℕ) → l < n → below n ≡ own l
  own-below zero low = absurd (omega arith)
  own-below (suc n) low = below-more n ∙ at (own-below n) (eqb l n) refl
    where
      at : (l < n → below n ≡ own l) → (same : Bool) → eqb l n ≡ same → below n ++ own n ≡ own l
      at earlier true e =
          let is : l ≡ n = eqb-true l n e in
          ap (λ xs. xs ++ own n) (none-below n (omega (arith, is))) ∙ ap own (sym is)
      at earlier false e =
          let other : l ≢ n = eqb-false l n e in
          ap₂ (λ xs ys. xs ++ ys) (earlier (omega (arith, other, low))) (others n e) ∙ append-nil (own l)

pub one-call : (line : ℕ) (sent : List ℕ) → line < LINES
    → dialled ByLine ten_pulses_a_second (call_of line sent ∷ []) ≡ on_line line (call_runs ten_pulses_a_second sent)
one-call line sent below =
    own-below (line_rows ten_pulses_a_second (call_of line sent ∷ [])) line other LINES below ∙ same (eqb line line) refl
  where
    other : (k : ℕ) → eqb line k ≡ false → line_rows ten_pulses_a_second (call_of line sent ∷ []) k ≡ []
    other k e = rw e refl

    same : (is : Bool) → eqb line line ≡ is
        → line_rows ten_pulses_a_second (call_of line sent ∷ []) line ≡ on_line line (call_runs ten_pulses_a_second sent)
    same true e = rw e refl
    same false e = absurd (eqb-false line line e refl)

pub one-call-is : (line : ℕ) (sent digits : List ℕ) (speed : Speed) (call : DialledCall) (rows : List LoopRow) → line < LINES
    → speed ≡ ten_pulses_a_second → call ≡ call_of line digits → digits ≡ sent
    → rows ≡ dialled ByLine speed (call ∷ []) → rows ≡ on_line line (call_runs ten_pulses_a_second sent)
one-call-is line sent digits speed call rows below speed_is call_is digits_are is =
    is ∙ ap₂ (λ s c. dialled ByLine s (c ∷ [])) speed_is (call_is ∙ ap (call_of line) digits_are) ∙ one-call line sent below
