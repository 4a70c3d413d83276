-- Entries with their numbers.
use Rattle.std.proofs.Common.{◌≡◌, ℕ, List, [], ◌∷◌, ◌++◌, refl, sym, ap, ◌∙◌, append_assoc, append-nil}
use Rattle.xb_model.specs.declared.mark.Mark.{Mark}
use Rattle.xb_live.specs.Entries.{Entry, Numbered, next_number, numbered_after}
use Rattle.xb_live.specs.Counting.{entry_of}

pub numbered_after-none : (earlier : List Entry) → numbered_after earlier [] ≡ []
unfolding numbered_after
numbered_after-none earlier = refl

-- the numbers of one entry more
pub numbered_after-one : (earlier : List Entry) (line : ℕ) (mark : Mark) (marks : List Mark) (number : ℕ) → number ≡ next_number earlier line
    → numbered_after earlier (entry_of line (mark ∷ marks)) ≡ record { line = line; number = number; marks = mark ∷ marks } ∷ []
unfolding numbered_after
numbered_after-one earlier line mark marks number e = ap (λ (n : ℕ). let first : Numbered = record { line = line; number = n; marks = mark ∷ marks } in first ∷ []) (sym e)

-- entries, and then more
pub numbered_after-append : (earlier xs ys : List Entry) → numbered_after earlier (xs ++ ys) ≡ numbered_after earlier xs ++ numbered_after (earlier ++ xs) ys
unfolding numbered_after
numbered_after-append earlier [] ys = ap (λ es. numbered_after es ys) (sym (append-nil earlier))
numbered_after-append earlier (x ∷ xs) ys =
    ap (λ es. record { line = x.line; number = next_number earlier x.line; marks = x.what } ∷ es)
    (numbered_after-append (earlier ++ x ∷ []) xs ys
    ∙ ap (λ es. numbered_after (earlier ++ x ∷ []) xs ++ numbered_after es ys) (append_assoc earlier (x ∷ []) xs))
