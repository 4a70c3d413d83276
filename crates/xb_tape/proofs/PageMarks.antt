-- How marks are written, one after another.
use Rattle.std.proofs.Common.{◌≡◌, ◌≤◌, ◌<◌, ◌+◌, ℕ, List, [], ◌++◌, length, get_or, drop, refl, sym, ap, ◌∙◌, append_assoc}
use Rattle.std.proofs.lemmas.List.{drop_all, drop_more}
use Rattle.xb_model.specs.Page.{mark_text, marks_text}
use Rattle.xb_model.specs.declared.mark.Mark.{Mark}

-- the texts of the marks from k on: that of mark k, and those after it
marks-more :
    (marks : List Mark) (k : ℕ) (d : Mark) → k < length marks
    → marks_text (drop k marks) ≡ mark_text (get_or marks k d) ++ marks_text (drop (k + 1) marks)
unfolding marks_text
marks-more marks k d h = rw (drop_more marks k d h) refl

-- one mark more is written
pub marks-written :
    (out out' all : List ℕ) (marks : List Mark) (k : ℕ) (m : Mark) → k < length marks → m ≡ get_or marks k m
    → out ++ marks_text (drop k marks) ≡ all → out' ≡ out ++ mark_text m → out' ++ marks_text (drop (k + 1) marks) ≡ all
marks-written out out' all marks k m h e before more =
    let rest = marks_text (drop (k + 1) marks) in
    ap (λ text. text ++ rest) more
    ∙ append_assoc out (mark_text m) rest
    ∙ ap (λ mark. out ++ (mark_text mark ++ rest)) e
    ∙ ap (λ text. out ++ text) (sym (marks-more marks k m h))
    ∙ before

-- after the last mark no text is left
pub marks-end : (marks : List Mark) (k : ℕ) → length marks ≤ k → marks_text (drop k marks) ≡ []
unfolding marks_text
marks-end marks k h = rw (drop_all k marks h) refl
