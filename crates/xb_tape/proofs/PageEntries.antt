-- How the entries of a line are written and counted, one after another.
use Rattle.std.proofs.Common.{◌≡◌, ◌+◌, ℕ, List, [], ◌∷◌, ◌++◌, Bool, true, false, not, cond, refl, ap, ◌∙◌, subst, append_assoc, arith}
use Rattle.std.proofs.lemmas.List.{append-nil}
use Rattle.std.specs.Prelude.{count_by}
use Rattle.std.proofs.lemmas.List.Sums.{sum_by-cons}
use Rattle.xb_model.specs.Page.{entries_text, entry_text, is_keyed, is_refused}
use Rattle.xb_model.specs.declared.mark.Mark.{Mark}

-- what is written of a line's entries, and how many are counted, before those that are left
pub record IsWritten
    (line : ℕ) (before : List ℕ) (entries : List (List Mark)) (out : List ℕ) (keyed refused : ℕ) (left : List (List Mark))
    : Type 0 where
  pub text : out ++ entries_text line (keyed + refused + 1) left ≡ before ++ entries_text line 1 entries
  pub keyed_are : keyed + count_by is_keyed left ≡ count_by is_keyed entries
  pub refused_are : refused + count_by is_refused left ≡ count_by is_refused entries

-- before the first entry
pub IsWritten-start : (line : ℕ) (before : List ℕ) (entries : List (List Mark)) → IsWritten line before entries before 0 0 entries
IsWritten-start line before entries = record { text = refl; keyed_are = omega arith; refused_are = omega arith }

-- after the last entry
pub IsWritten-end :
    {line : ℕ} {before : List ℕ} {entries : List (List Mark)} {out : List ℕ} {keyed refused : ℕ} {left : List (List Mark)}
    → IsWritten line before entries out keyed refused left → left ≡ [] → out ≡ before ++ entries_text line 1 entries
unfolding entries_text
IsWritten-end written none = rw (none, append-nil) at written.text

-- one entry more is written
text-more :
    (line n : ℕ) (out out' all : List ℕ) (entry : List Mark) (left : List (List Mark))
    → out ++ entries_text line n (entry ∷ left) ≡ all → out' ≡ out ++ entry_text line n entry
    → out' ++ entries_text line (n + 1) left ≡ all
unfolding entries_text
text-more line n out out' all entry left before more =
    ap (λ text. text ++ entries_text line (n + 1) left) more
    ∙ append_assoc out (entry_text line n entry) (entries_text line (n + 1) left)
    ∙ before

-- an entry that passes is counted
count-more :
    (test : List Mark → Bool) (entry : List Mark) (left : List (List Mark)) (n all : ℕ) → test entry ≡ true
    → n + count_by test (entry ∷ left) ≡ all → n + 1 + count_by test left ≡ all
count-more test entry left n all passes before =
    omega (arith, ap {B = ℕ} (λ b. cond b 1 0) passes, before, sum_by-cons (λ entry. cond (test entry) 1 0) entry left)

-- another entry is not
count-same :
    (test : List Mark → Bool) (entry : List Mark) (left : List (List Mark)) (n all : ℕ) → test entry ≡ false
    → n + count_by test (entry ∷ left) ≡ all → n + count_by test left ≡ all
count-same test entry left n all passes before =
    omega (arith, ap {B = ℕ} (λ b. cond b 1 0) passes, before, sum_by-cons (λ entry. cond (test entry) 1 0) entry left)

module _ {line : ℕ} {before : List ℕ} {entries here left : List (List Mark)} {out : List ℕ} {keyed refused : ℕ} {entry : List Mark}
    (so_far : IsWritten line before entries out keyed refused here) (next : here ≡ entry ∷ left) where
  written : IsWritten line before entries out keyed refused (entry ∷ left)
  written = subst (IsWritten line before entries out keyed refused) next so_far

  -- the entry is a keyed call
  pub IsWritten-keyed :
      (out' : List ℕ) → is_refused entry ≡ false → out' ≡ out ++ entry_text line (keyed + refused + 1) entry
      → IsWritten line before entries out' (keyed + 1) refused left
  IsWritten-keyed out' kept more =
      let number : keyed + 1 + refused + 1 ≡ keyed + refused + 1 + 1 = omega arith in
      record {
        text =
            ap (λ n. out' ++ entries_text line n left) number
            ∙ text-more line (keyed + refused + 1) out out' _ entry left written.text more;
        keyed_are = count-more is_keyed entry left keyed _ (ap not kept) written.keyed_are;
        refused_are = count-same is_refused entry left refused _ kept written.refused_are;
      }

  -- the entry is a refused one
  pub IsWritten-refused :
      (out' : List ℕ) → is_refused entry ≡ true → out' ≡ out ++ entry_text line (keyed + refused + 1) entry
      → IsWritten line before entries out' keyed (refused + 1) left
  IsWritten-refused out' refuses more =
      let number : keyed + (refused + 1) + 1 ≡ keyed + refused + 1 + 1 = omega arith in
      record {
        text =
            ap (λ n. out' ++ entries_text line n left) number
            ∙ text-more line (keyed + refused + 1) out out' _ entry left written.text more;
        keyed_are = count-same is_keyed entry left keyed _ (ap not refuses) written.keyed_are;
        refused_are = count-more is_refused entry left refused _ refuses written.refused_are;
      }
