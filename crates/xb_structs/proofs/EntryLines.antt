-- The texts of marks, one after another, and the marks that plain numbers say.
use Rattle.std.proofs.Common.{◌≡◌, ◌∙◌, ◌≤◌, ◌<◌, ◌+◌, ℕ, List, [], ◌∷◌, ◌++◌, length, get_or, map, drop, refl, sym, ap, ap₂, append_assoc, arith}
use Rattle.std.specs.List.{AllByRecursion}
use Rattle.std.proofs.lemmas.List.{drop_all, drop_more}
use Rattle.xb_model.specs.declared.key.Key.TheVariants.{Digit, Kp, St}
use Rattle.xb_model.specs.declared.mark.Mark.{Mark}
use Rattle.xb_model.specs.declared.mark.Mark.TheVariants.{Trunk, Tone as Sounds, Refused}
use Rattle.xb_model.specs.declared.on.On.{On}
use Rattle.xb_model.specs.declared.reason.Reason.TheVariants.{Mutilated, Unknown, Abandoned, TimedOut}
use Rattle.xb_model.specs.Page.{mark_text, marks_text}
use Rattle.xb_structs.specs.declared.mark.PlainMark.{PlainMark}
use Rattle.xb_structs.specs.EntryLines.{IsKind, mark_in}
use Rattle.xb_structs.specs.Marks.{mark_on, plain_mark}

-- the texts of the marks from k on: that of mark k, and those after it
texts-more : (marks : List PlainMark) (k : ℕ) (d : PlainMark) → k < length marks
    → marks_text (map mark_in (drop k marks)) ≡ mark_text (mark_in (get_or marks k d)) ++ marks_text (map mark_in (drop (k + 1) marks))
unfolding marks_text
texts-more marks k d h = rw (drop_more marks k d h) refl

-- one mark more is written
pub one-more-text : (out out' all : List ℕ) (marks : List PlainMark) (k : ℕ) (d : PlainMark) → k < length marks
    → out ++ marks_text (map mark_in (drop k marks)) ≡ all → out' ≡ out ++ mark_text (mark_in (get_or marks k d))
    → out' ++ marks_text (map mark_in (drop (k + 1) marks)) ≡ all
one-more-text out out' all marks k d h before more =
    let text = mark_text (mark_in (get_or marks k d)) in
    let rest = marks_text (map mark_in (drop (k + 1) marks)) in
    ap (λ xs. xs ++ rest) more
    ∙ append_assoc out text rest
    ∙ ap (λ xs. out ++ xs) (sym (texts-more marks k d h))
    ∙ before

-- after the last mark no text is left
pub no-more-text : (marks : List PlainMark) (k : ℕ) → length marks ≤ k → marks_text (map mark_in (drop k marks)) ≡ []
unfolding marks_text
no-more-text marks k h = rw (drop_all k marks h) refl

-- the plain numbers of a mark say this mark
read-back : (line : ℕ) (mark : Mark) → mark_in (mark_on line mark) ≡ mark
read-back line (Trunk trunk) = refl
read-back line (Sounds (Digit digit) pair) = refl
read-back line (Sounds Kp pair) = refl
read-back line (Sounds St pair) = refl
read-back line (Refused Mutilated heard) = refl
read-back line (Refused Unknown heard) = refl
read-back line (Refused Abandoned heard) = refl
read-back line (Refused TimedOut heard) = refl

is-kind : (line : ℕ) (mark : Mark) → IsKind (mark_on line mark)
is-kind line (Trunk trunk) = omega arith
is-kind line (Sounds (Digit digit) pair) = omega arith
is-kind line (Sounds Kp pair) = omega arith
is-kind line (Sounds St pair) = omega arith
is-kind line (Refused Mutilated heard) = omega arith
is-kind line (Refused Unknown heard) = omega arith
is-kind line (Refused Abandoned heard) = omega arith
is-kind line (Refused TimedOut heard) = omega arith

pub all-read-back : (given : List (On Mark)) → map mark_in (map plain_mark given) ≡ map (λ mark. mark.what) given
all-read-back [] = refl
all-read-back (mark ∷ given) = ap₂ (λ m ms. m ∷ ms) (read-back mark.line mark.what) (all-read-back given)

pub all-kinds : (given : List (On Mark)) → AllByRecursion IsKind (map plain_mark given)
all-kinds [] = tt
all-kinds (mark ∷ given) = (is-kind mark.line mark.what, all-kinds given)
