-- The sheet of tapes, line by line.
use Rattle.std.proofs.Common.{◌≡◌, ◌≤◌, ◌<◌, ◌+◌, ℕ, zero, suc, List, [], ◌∷◌, map, refl, sym, ap, ap₂, ◌∙◌, arith, append_assoc, append-nil}
use Rattle.std.specs.Prelude.{count_by}
use Rattle.std.specs.List.{range_with_len}
use Rattle.std.proofs.lemmas.List.Sums.{sum_by-cons}
use Rattle.xb_model.specs.declared.mark.Mark.{Mark}
use Rattle.xb_model.specs.Page.{count_entries, entries_text, is_keyed, is_refused, tape_text, tapes_text}
use Rattle.xb_model.specs.Tapes.{entries_of}
use Rattle.xb_page.specs.Sheets.{Sheet, followed_by, no_entries, sheet_with}

-- equal parts make equal sheets
pub sheet_with-same :
    (entries entries' : List ℕ) (keyed keyed' refused refused' : ℕ)
    → entries ≡ entries' → keyed ≡ keyed' → refused ≡ refused'
    → sheet_with entries keyed refused ≡ sheet_with entries' keyed' refused'
sheet_with-same entries entries' keyed keyed' refused refused' e k r =
    ap (λ (es : List ℕ). sheet_with es keyed refused) e
    ∙ ap (λ (n : ℕ). sheet_with entries' n refused) k
    ∙ ap (λ (n : ℕ). sheet_with entries' keyed' n) r

pub followed_by-assoc : (a b c : Sheet) → followed_by (followed_by a b) c ≡ followed_by a (followed_by b c)
followed_by-assoc a b c =
    sheet_with-same _ _ _ _ _ _ (append_assoc a.entries b.entries c.entries) (omega arith) (omega arith)

pub no_entries-first : (s : Sheet) → followed_by no_entries s ≡ s
no_entries-first s = sheet_with-same _ _ _ _ _ _ refl (omega arith) (omega arith)

pub no_entries-last : (s : Sheet) → followed_by s no_entries ≡ s
no_entries-last s = sheet_with-same _ _ _ _ _ _ (append-nil s.entries) (omega arith) (omega arith)

-- the sheet of one line's tape
abbrev pub line_sheet : ℕ → List Mark → Sheet
line_sheet l marks =
    sheet_with (tape_text l marks) (count_by is_keyed (entries_of marks)) (count_by is_refused (entries_of marks))

-- the sheet of n lines from line a on, each with its tape
unfoldable pub sheet_from : (ℕ → List Mark) → ℕ → ℕ → Sheet
sheet_from tape a zero = no_entries
sheet_from tape a (suc n) = followed_by (line_sheet a (tape a)) (sheet_from tape (a + 1) n)

-- the sheet of tapes that begin with line a
abbrev sheet_at : ℕ → List (List Mark) → Sheet
sheet_at a tapes = sheet_with (tapes_text a tapes) (count_entries is_keyed tapes) (count_entries is_refused tapes)

sheet_at-none : (a : ℕ) → sheet_at a [] ≡ no_entries
unfolding tapes_text
sheet_at-none a = refl

sheet_at-more : (a : ℕ) (marks : List Mark) (tapes : List (List Mark))
    → sheet_at a (marks ∷ tapes) ≡ followed_by (line_sheet a marks) (sheet_at (a + 1) tapes)
unfolding tapes_text
sheet_at-more a marks tapes =
    sheet_with-same _ _ _ _ _ _ refl
    (sum_by-cons (λ ms. count_by is_keyed (entries_of ms)) marks tapes)
    (sum_by-cons (λ ms. count_by is_refused (entries_of ms)) marks tapes)

-- the sheet of tapes is that of their lines
pub sheet_at-lines : (tape : ℕ → List Mark) (a n : ℕ) → sheet_at a (map tape (range_with_len a n)) ≡ sheet_from tape a n
unfolding sheet_from
sheet_at-lines tape a zero = sheet_at-none a
sheet_at-lines tape a (suc n) =
    sheet_at-more a (tape a) (map tape (range_with_len (a + 1) n))
    ∙ ap (followed_by (line_sheet a (tape a))) (sheet_at-lines tape (a + 1) n)

sheet_from-more : (tape : ℕ → List Mark) (a n : ℕ)
    → sheet_from tape a (suc n) ≡ followed_by (line_sheet a (tape a)) (sheet_from tape (a + 1) n)
unfolding sheet_from
sheet_from-more tape a n = refl

-- the lines of a range, cut in two
pub sheet_from-split : (tape : ℕ → List Mark) (a m n k b : ℕ) → m + n ≡ k → a + m ≡ b
    → sheet_from tape a k ≡ followed_by (sheet_from tape a m) (sheet_from tape b n)
unfolding sheet_from
sheet_from-split tape a zero n k b e f =
    let same : k ≡ n = omega arith in
    let start : a ≡ b = omega arith in
    ap (sheet_from tape a) same ∙ ap (λ (i : ℕ). sheet_from tape i n) start ∙ sym (no_entries-first (sheet_from tape b n))
sheet_from-split tape a (suc m) n k b e f =
    let more : k ≡ suc (m + n) = omega arith in
    ap (sheet_from tape a) more
    ∙ ap (followed_by (line_sheet a (tape a))) (sheet_from-split tape (a + 1) m n (m + n) b refl (omega arith))
    ∙ sym (followed_by-assoc (line_sheet a (tape a)) (sheet_from tape (a + 1) m) (sheet_from tape b n))

-- only the tapes of the range matter
pub sheet_from-same : (tape tape' : ℕ → List Mark) (a n : ℕ) → ((l : ℕ) → a ≤ l → l < a + n → tape l ≡ tape' l)
    → sheet_from tape a n ≡ sheet_from tape' a n
unfolding sheet_from
sheet_from-same tape tape' a zero same = refl
sheet_from-same tape tape' a (suc n) same =
    ap₂ (λ (marks : List Mark) (rest : Sheet). followed_by (line_sheet a marks) rest)
    (same a (omega arith) (omega arith))
    (sheet_from-same tape tape' (a + 1) n (λ l low high. same l (omega arith) (omega arith)))

line_sheet-blank : (l : ℕ) → line_sheet l [] ≡ no_entries
unfolding entries_text
line_sheet-blank l = refl

sheet_from-no_tapes : (a n : ℕ) → sheet_from (λ _. []) a n ≡ no_entries
unfolding sheet_from
sheet_from-no_tapes a zero = refl
sheet_from-no_tapes a (suc n) = ap₂ followed_by (line_sheet-blank a) (sheet_from-no_tapes (a + 1) n)

-- lines without marks have no entries
pub sheet_from-blank : (tape : ℕ → List Mark) (a n : ℕ) → ((l : ℕ) → a ≤ l → l < a + n → tape l ≡ [])
    → sheet_from tape a n ≡ no_entries
sheet_from-blank tape a n blank = sheet_from-same tape (λ _. []) a n blank ∙ sheet_from-no_tapes a n
