-- Tapes, one mark after another.
use Rattle.std.proofs.Common.{◌≡◌, ◌≢◌, ℕ, ◌<◌, eqb, List, [], ◌∷◌, ◌++◌, get_or, set, length, true, false, sym, ap, ◌∙◌, subst, ⊎_elim, eqb-true, get_or-set_same, get_or-set_other, append-nil, length-set}
use Rattle.std.proofs.lemmas.Bool.{cases_Bool, eqb-false}
use Rattle.std.proofs.lemmas.List.{map-append}
use Rattle.xb_model.specs.declared.line.TheConstants.{LINES}
use Rattle.xb_model.specs.declared.on.On.{On}
use Rattle.xb_model.specs.declared.mark.Mark.{Mark}
use Rattle.xb_model.specs.Lines.{on_line_of, of_line}
use Rattle.xb_model.proofs.Lines.{of_line-append, of_line-here, of_line-other}
use Rattle.xb_model.specs.Tapes.{marks_at}
use Rattle.xb_tape.specs.GatheredMarks.{whats_of, AreTapes}

-- blank tapes have no marks
pub are_tapes-none : (tapes : List (List Mark)) → length tapes ≡ LINES → ((l : ℕ) → marks_at tapes l ≡ []) → AreTapes tapes []
are_tapes-none tapes lines blank = record { lines = lines; each = λ l below. blank l }

-- a mark more, put after those of its line
module _ (tapes after : List (List Mark)) (marks : List (On Mark)) (x : On Mark) (are : AreTapes tapes marks) (on : x.line < LINES)
    (e : after ≡ set tapes x.line (marks_at tapes x.line ++ x.what ∷ [])) where
  abbrev more : List Mark
  more = marks_at tapes x.line ++ x.what ∷ []

  at_its_line : (l : ℕ) → l < LINES → eqb x.line l ≡ true → get_or (set tapes x.line more) l [] ≡ whats_of (of_line on_line_of l (marks ++ x ∷ []))
  at_its_line l below t =
      let same : x.line ≡ l = eqb-true _ _ t in
      ap (λ i. get_or (set tapes i more) l []) same
      ∙ get_or-set_same tapes l more [] (subst (λ n. l < n) (sym are.lines) below)
      ∙ ap (λ i. marks_at tapes i ++ x.what ∷ []) same
      ∙ ap (λ zs. zs ++ x.what ∷ []) (are.each l below)
      ∙ sym (map-append (λ (mark : On Mark). mark.what) (of_line on_line_of l marks) (x ∷ []))
      ∙ ap whats_of (sym (of_line-append on_line_of l marks (x ∷ []) ∙ ap (λ zs. of_line on_line_of l marks ++ zs) (of_line-here on_line_of l x [] t)))

  at_another : (l : ℕ) → l < LINES → eqb x.line l ≡ false → get_or (set tapes x.line more) l [] ≡ whats_of (of_line on_line_of l (marks ++ x ∷ []))
  at_another l below f =
      let other : l ≢ x.line = λ w. eqb-false _ _ f (sym w) in
      get_or-set_other tapes x.line l more [] other
      ∙ are.each l below
      ∙ ap whats_of (sym (of_line-append on_line_of l marks (x ∷ []) ∙ ap (λ zs. of_line on_line_of l marks ++ zs) (of_line-other on_line_of l x [] f) ∙ append-nil _))

  -- the tapes after one mark more
  pub are_tapes-more : AreTapes after (marks ++ x ∷ [])
  are_tapes-more = record {
    lines = ap length e ∙ length-set tapes x.line more ∙ are.lines;
    each = λ l below. ap (λ zs. get_or zs l []) e ∙ ⊎_elim (at_its_line l below) (at_another l below) (cases_Bool (eqb x.line l));
  }
