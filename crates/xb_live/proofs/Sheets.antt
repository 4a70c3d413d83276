-- Entries of many lines, sorted by line.
use Rattle.std.proofs.Common.{◌≡◌, inl, inr, ℕ, zero, suc, ◌+◌, ◌<◌, ◌≤◌, eqb, List, [], ◌∷◌, ◌++◌, map, refl, sym, ap, ◌∙◌, subst, ⊎_elim, arith, eqb-true}
use Rattle.std.specs.Prelude.{IsPermutation, sum_by}
use Rattle.std.specs.List.{All, AllByRecursion, AllPairs, flat_map, range_with_len}
use Rattle.std.proofs.lemmas.Bool.{cases_Bool, cases_lt, eqb-false, ne_eqb}
use Rattle.std.proofs.lemmas.List.Concat.{flat_map-append}
use Rattle.std.proofs.lemmas.List.Elements.{All-from_recursion, All-append}
use Rattle.std.proofs.lemmas.List.Kept.{AllPairs-cons}
use Rattle.std.proofs.lemmas.List.Sorted.{IsPermutation-refl, IsPermutation-sym, IsPermutation-trans, IsPermutation-cons, IsPermutation-append_right, IsPermutation-middle}
use Rattle.std.proofs.lemmas.List.Sums.{sum_by-append, sum_by-cons}
use Rattle.xb_model.specs.declared.mark.Mark.{Mark}
use Rattle.xb_model.specs.Lines.{of_line}
use Rattle.xb_model.specs.Page.{entries_text, tapes_text}
use Rattle.xb_model.specs.Tapes.{entries_of}
use Rattle.xb_model.proofs.Lines.{of_line-here, of_line-other}
use Rattle.xb_live.specs.Entries.{Numbered}
use Rattle.xb_live.specs.Pages.{ComesBefore, page_line}

abbrev pub line_of : Numbered → ℕ
line_of entry = entry.line

-- entries of a line, numbered from n on
abbrev pub numbered_from : ℕ → ℕ → List (List Mark) → List Numbered
numbered_from l n [] = []
numbered_from l n (marks ∷ later) = record { line = l; number = n; marks = marks } ∷ numbered_from l (n + 1) later

-- the n lines from line a on, each with its entries
abbrev pub sheet : (ℕ → List (List Mark)) → ℕ → ℕ → List Numbered
sheet entries a n = flat_map (λ l. numbered_from l 1 (entries l)) (range_with_len a n)

-- the entries of n lines from line a on, line by line
abbrev pub of_lines : List Numbered → ℕ → ℕ → List Numbered
of_lines entries a n = flat_map (λ l. of_line line_of l entries) (range_with_len a n)

-- an entry of a lower line is not among them
of_lines-lower : (entry : Numbered) (entries : List Numbered) (a n : ℕ) → entry.line < a → of_lines (entry ∷ entries) a n ≡ of_lines entries a n
of_lines-lower entry entries a zero below = refl
of_lines-lower entry entries a (suc n) below =
    ap (λ es. es ++ of_lines (entry ∷ entries) (a + 1) n) (of_line-other line_of a entry entries (ne_eqb _ _ (λ e. omega (arith, e, below))))
    ∙ ap (λ es. of_line line_of a entries ++ es) (of_lines-lower entry entries (a + 1) n (omega (arith, below)))

-- an entry of one of them is among them
of_lines-more : (entry : Numbered) (entries : List Numbered) (a n : ℕ) → a ≤ entry.line → entry.line < a + n
    → IsPermutation (entry ∷ of_lines entries a n) (of_lines (entry ∷ entries) a n)
of_lines-more entry entries a zero from below = absurd (omega (arith, from, below))
of_lines-more entry entries a (suc n) from below =
    ⊎_elim
    (λ here.
    subst (IsPermutation (entry ∷ (of_line line_of a entries ++ of_lines entries (a + 1) n)))
    (sym (ap (λ es. es ++ of_lines (entry ∷ entries) (a + 1) n) (of_line-here line_of a entry entries here)
    ∙ ap (λ es. entry ∷ (of_line line_of a entries ++ es)) (of_lines-lower entry entries (a + 1) n (let e = eqb-true _ _ here in omega (arith, e)))))
    (IsPermutation-refl _))
    (λ other.
    subst (IsPermutation (entry ∷ (of_line line_of a entries ++ of_lines entries (a + 1) n)))
    (sym (ap (λ es. es ++ of_lines (entry ∷ entries) (a + 1) n) (of_line-other line_of a entry entries other)))
    (IsPermutation-trans _ _ _
    (IsPermutation-sym _ _ (IsPermutation-middle (of_line line_of a entries) entry (of_lines entries (a + 1) n)))
    (IsPermutation-append_right (of_line line_of a entries) _ _
    (of_lines-more entry entries (a + 1) n (let e = eqb-false _ _ other in ⊎_elim (λ lower. absurd (e (omega (arith, from, lower)))) (λ h. h) (cases_lt entry.line (a + 1))) (omega (arith, below))))))
    (cases_Bool (eqb entry.line a))

of_lines-none : (a n : ℕ) → of_lines [] a n ≡ []
of_lines-none a zero = refl
of_lines-none a (suc n) = of_lines-none (a + 1) n

-- entries of the lines below n, line by line
pub of_lines-all : (entries : List Numbered) (n : ℕ) → AllByRecursion (λ entry. line_of entry < n) entries → IsPermutation entries (of_lines entries 0 n)
of_lines-all [] n below = subst (IsPermutation []) (sym (of_lines-none 0 n)) (IsPermutation-refl [])
of_lines-all (entry ∷ entries) n below =
    IsPermutation-trans _ _ _
    (IsPermutation-cons entry _ _ (of_lines-all entries n below.1))
    (of_lines-more entry entries 0 n (omega arith) (omega (arith, below.0)))

-- entries that are the same on each line
pub of_lines-sheet : (entries : List Numbered) (sheets : ℕ → List (List Mark)) (a n : ℕ)
    → ((l : ℕ) → l < a + n → of_line line_of l entries ≡ numbered_from l 1 (sheets l)) → of_lines entries a n ≡ sheet sheets a n
of_lines-sheet entries sheets a zero same = refl
of_lines-sheet entries sheets a (suc n) same =
    ap (λ es. es ++ of_lines entries (a + 1) n) (same a (omega arith))
    ∙ ap (λ es. numbered_from a 1 (sheets a) ++ es) (of_lines-sheet entries sheets (a + 1) n (λ l below. same l (omega (arith, below))))

-- what holds of both parts and between them
pub AllPairs-append : {X : Type 0} (R : X → X → Type 0) (xs ys : List X) → AllPairs R xs → AllPairs R ys → AllByRecursion (λ x. All (R x) ys) xs → AllPairs R (xs ++ ys)
AllPairs-append R [] ys first second between = second
AllPairs-append R (x ∷ xs) ys first second between =
    AllPairs-cons R x (xs ++ ys)
    (All-append (R x) xs ys (λ j d within. first zero (suc j) d (omega arith) (omega (arith, within))) between.0)
    (AllPairs-append R xs ys (λ i j d lt within. first (suc i) (suc j) d (omega (arith, lt)) (omega (arith, within))) second between.1)

-- the entries of a line are on it, and their numbers ascend
numbered_from-later : (l n : ℕ) (entries : List (List Mark)) → AllByRecursion (λ (e : Numbered). (e.line ≡ l) × (n ≤ e.number)) (numbered_from l n entries)
numbered_from-later l n [] = tt
numbered_from-later l n (marks ∷ later) = ((refl, omega arith), lower (numbered_from l (n + 1) later) (numbered_from-later l (n + 1) later))
  where
    lower : (es : List Numbered) → AllByRecursion (λ (e : Numbered). (e.line ≡ l) × (n + 1 ≤ e.number)) es → AllByRecursion (λ (e : Numbered). (e.line ≡ l) × (n ≤ e.number)) es
    lower [] h = tt
    lower (e ∷ es) h = ((h.0.0, omega (arith, h.0.1)), lower es h.1)

numbered_from-order : (l n : ℕ) (entries : List (List Mark)) → AllPairs ComesBefore (numbered_from l n entries)
numbered_from-order l n [] = λ i j d lt within. absurd (omega (arith, within))
numbered_from-order l n (marks ∷ later) =
    AllPairs-cons ComesBefore _ (numbered_from l (n + 1) later)
    (All-from_recursion (ComesBefore (record { line = l; number = n; marks = marks })) _ (after (numbered_from l (n + 1) later) (numbered_from-later l (n + 1) later)))
    (numbered_from-order l (n + 1) later)
  where
    after : (es : List Numbered) → AllByRecursion (λ (e : Numbered). (e.line ≡ l) × (n + 1 ≤ e.number)) es → AllByRecursion (ComesBefore (record { line = l; number = n; marks = marks })) es
    after [] h = tt
    after (e ∷ es) h = (inr (sym h.0.0, omega (arith, h.0.1)), after es h.1)

-- those of later lines come later
module _ (sheets : ℕ → List (List Mark)) where
  sheet-from : (a n b : ℕ) → b ≤ a → AllByRecursion (λ (e : Numbered). b ≤ e.line) (sheet sheets a n)
  sheet-from a zero b from = tt
  sheet-from a (suc n) b from =
      both (numbered_from a 1 (sheets a)) (numbered_from-later a 1 (sheets a)) (sheet sheets (a + 1) n) (sheet-from (a + 1) n b (omega (arith, from)))
    where
      both : (xs : List Numbered) → AllByRecursion (λ (e : Numbered). (e.line ≡ a) × (1 ≤ e.number)) xs → (ys : List Numbered) → AllByRecursion (λ (e : Numbered). b ≤ e.line) ys → AllByRecursion (λ (e : Numbered). b ≤ e.line) (xs ++ ys)
      both [] h ys k = k
      both (x ∷ xs) h ys k = (omega (arith, h.0.0, from), both xs h.1 ys k)

  pub sheet-order : (a n : ℕ) → AllPairs ComesBefore (sheet sheets a n)
  sheet-order a zero = λ i j d lt within. absurd (omega (arith, within))
  sheet-order a (suc n) =
      AllPairs-append ComesBefore (numbered_from a 1 (sheets a)) (sheet sheets (a + 1) n) (numbered_from-order a 1 (sheets a)) (sheet-order (a + 1) n)
      (between (numbered_from a 1 (sheets a)) (numbered_from-later a 1 (sheets a)))
    where
      later : (x : Numbered) → x.line ≡ a → (ys : List Numbered) → AllByRecursion (λ (e : Numbered). a + 1 ≤ e.line) ys → AllByRecursion (ComesBefore x) ys
      later x on [] h = tt
      later x on (y ∷ ys) h = (inl (omega (arith, on, h.0)), later x on ys h.1)

      between : (xs : List Numbered) → AllByRecursion (λ (e : Numbered). (e.line ≡ a) × (1 ≤ e.number)) xs → AllByRecursion (λ x. All (ComesBefore x) (sheet sheets (a + 1) n)) xs
      between [] h = tt
      between (x ∷ xs) h =
          (All-from_recursion (ComesBefore x) (sheet sheets (a + 1) n) (later x h.0.0 (sheet sheets (a + 1) n) (sheet-from (a + 1) n (a + 1) (omega arith))), between xs h.1)

-- the text of a line's entries
numbered_from-text : (l n : ℕ) (entries : List (List Mark)) → flat_map page_line (numbered_from l n entries) ≡ entries_text l n entries
unfolding entries_text
numbered_from-text l n [] = refl
numbered_from-text l n (marks ∷ later) = ap (λ text. page_line (record { line = l; number = n; marks = marks }) ++ text) (numbered_from-text l (n + 1) later)

-- and of all lines
pub sheet-text : (tapes : ℕ → List Mark) (a n : ℕ)
    → flat_map page_line (sheet (λ l. entries_of (tapes l)) a n) ≡ tapes_text a (map tapes (range_with_len a n))
unfolding tapes_text
sheet-text tapes a zero = refl
sheet-text tapes a (suc n) =
    flat_map-append page_line (numbered_from a 1 (entries_of (tapes a))) (sheet (λ l. entries_of (tapes l)) (a + 1) n)
    ∙ ap (λ text. text ++ flat_map page_line (sheet (λ l. entries_of (tapes l)) (a + 1) n)) (numbered_from-text a 1 (entries_of (tapes a)))
    ∙ ap (λ text. entries_text a 1 (entries_of (tapes a)) ++ text) (sheet-text tapes (a + 1) n)

-- a sum over the entries of a line, and over those of all lines
module _ (f : List Mark → ℕ) where
  numbered_from-sum : (l n : ℕ) (entries : List (List Mark)) → sum_by (λ (e : Numbered). f e.marks) (numbered_from l n entries) ≡ sum_by f entries
  numbered_from-sum l n [] = refl
  numbered_from-sum l n (marks ∷ later) =
      sum_by-cons (λ (e : Numbered). f e.marks) (record { line = l; number = n; marks = marks }) (numbered_from l (n + 1) later)
      ∙ ap (λ k. f marks + k) (numbered_from-sum l (n + 1) later)
      ∙ sym (sum_by-cons f marks later)

  pub sheet-sum : (tapes : ℕ → List Mark) (a n : ℕ)
      → sum_by (λ (e : Numbered). f e.marks) (sheet (λ l. entries_of (tapes l)) a n) ≡ sum_by (λ marks. sum_by f (entries_of marks)) (map tapes (range_with_len a n))
  sheet-sum tapes a zero = refl
  sheet-sum tapes a (suc n) =
      sum_by-append (λ (e : Numbered). f e.marks) (numbered_from a 1 (entries_of (tapes a))) (sheet (λ l. entries_of (tapes l)) (a + 1) n)
      ∙ ap (λ k. k + sum_by (λ (e : Numbered). f e.marks) (sheet (λ l. entries_of (tapes l)) (a + 1) n)) (numbered_from-sum a 1 (entries_of (tapes a)))
      ∙ ap (λ k. sum_by f (entries_of (tapes a)) + k) (sheet-sum tapes (a + 1) n)
      ∙ sym (sum_by-cons (λ marks. sum_by f (entries_of marks)) (tapes a) (map tapes (range_with_len (a + 1) n)))
