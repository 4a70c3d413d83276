-- How the tapes of all lines are written and counted, one after another.
use Rattle.std.proofs.Common.{◌≡◌, ◌<◌, ◌+◌, ℕ, List, [], ◌∷◌, ◌++◌, length, drop, Bool, get_or, refl, sym, ap, ◌∙◌, arith, append_assoc}
use Rattle.std.specs.Prelude.{count_by}
use Rattle.std.proofs.lemmas.List.Sums.{sum_by-cons}
use Rattle.std.proofs.lemmas.List.{append-nil, drop_all, drop_more}
use Rattle.xb_model.specs.Page.{count_entries, is_keyed, is_refused, page_text, tape_text, tapes_text, totals_text}
use Rattle.xb_model.specs.declared.mark.Mark.{Mark}
use Rattle.xb_model.specs.Tapes.{entries_of}

-- what is written of the tapes, and how many entries are counted, before line n
pub record AreWritten (tapes : List (List Mark)) (out : List ℕ) (keyed refused n : ℕ) : Type 0 where
  pub text : out ++ tapes_text n (drop n tapes) ≡ tapes_text 0 tapes
  pub keyed_are : keyed + count_entries is_keyed (drop n tapes) ≡ count_entries is_keyed tapes
  pub refused_are : refused + count_entries is_refused (drop n tapes) ≡ count_entries is_refused tapes

-- before the first line
pub AreWritten-start : (tapes : List (List Mark)) → AreWritten tapes [] 0 0 0
AreWritten-start tapes = record { text = refl; keyed_are = omega arith; refused_are = omega arith }

-- the text of one tape more
text-more :
    (out out' all : List ℕ) (n : ℕ) (marks : List Mark) (left : List (List Mark))
    → out ++ tapes_text n (marks ∷ left) ≡ all → out' ≡ out ++ tape_text n marks → out' ++ tapes_text (n + 1) left ≡ all
unfolding tapes_text
text-more out out' all n marks left before more =
    ap (λ text. text ++ tapes_text (n + 1) left) more
    ∙ append_assoc out (tape_text n marks) (tapes_text (n + 1) left)
    ∙ before

-- the count of one tape more
count-more :
    (test : List Mark → Bool) (marks : List Mark) (left : List (List Mark)) (n k all : ℕ)
    → n + count_entries test (marks ∷ left) ≡ all → k ≡ count_by test (entries_of marks)
    → n + k + count_entries test left ≡ all
count-more test marks left n k all before more =
    omega (arith, before, more, sum_by-cons (λ marks. count_by test (entries_of marks)) marks left)

-- the tape of one line more
pub AreWritten-more :
    {tapes : List (List Mark)} {out : List ℕ} {keyed refused n : ℕ} (marks : List Mark) (out' : List ℕ) (keyed' refused' : ℕ)
    → AreWritten tapes out keyed refused n → n < length tapes → marks ≡ get_or tapes n []
    → out' ≡ out ++ tape_text n marks → keyed' ≡ count_by is_keyed (entries_of marks) → refused' ≡ count_by is_refused (entries_of marks)
    → AreWritten tapes out' (keyed + keyed') (refused + refused') (n + 1)
AreWritten-more {tapes} {out} {keyed} {refused} {n} marks out' keyed' refused' before below is more keyed_more refused_more =
    let next : drop n tapes ≡ marks ∷ drop (n + 1) tapes = drop_more tapes n [] below ∙ ap (λ marks. marks ∷ drop (n + 1) tapes) (sym is) in
    record {
      text = text-more out out' _ n marks (drop (n + 1) tapes) (rw next at before.text) more;
      keyed_are = count-more is_keyed marks (drop (n + 1) tapes) keyed keyed' _ (rw next at before.keyed_are) keyed_more;
      refused_are = count-more is_refused marks (drop (n + 1) tapes) refused refused' _ (rw next at before.refused_are) refused_more;
    }

-- after the last line
pub AreWritten-end :
    {tapes : List (List Mark)} {out : List ℕ} {keyed refused n : ℕ} → AreWritten tapes out keyed refused n
    → n ≡ length tapes → out ++ totals_text keyed refused ≡ page_text tapes
unfolding tapes_text
AreWritten-end {tapes} {out} {keyed} {refused} {n} written whole =
    let none : drop n tapes ≡ [] = drop_all n tapes (omega (arith, whole)) in
    let text : out ≡ tapes_text 0 tapes = rw (none, append-nil) at written.text in
    let all_keyed : keyed ≡ count_entries is_keyed tapes = omega (arith, rw none at written.keyed_are) in
    let all_refused : refused ≡ count_entries is_refused tapes = omega (arith, rw none at written.refused_are) in
    rw (text, all_keyed, all_refused) refl
