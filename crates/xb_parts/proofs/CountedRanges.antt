-- The rows of a range are as many as its lines have together.
use Rattle.std.proofs.Common.{◌≡◌, ◌≤◌, ◌<◌, ◌+◌, ◌-◌, ◌^◌, ℕ, zero, suc, Bool, true, false, ◌&&◌, cond, eqb, leb, ltb, List, [], ◌∷◌, length, refl, sym, ap, ap₂, ◌∙◌, arith, inl, inr}
use Rattle.std.specs.Prelude.{sum_by, slice_range, slice_index_or, ◌⊎◌}
use Rattle.std.specs.List.{filter}
use Rattle.std.proofs.lemmas.Bool.{and_left, and_right, cases_lt, cases_order, cond-false, eq-eqb, le-leb, le-ltb, lt-leb, lt-ltb, ne_eqb}
use Rattle.std.proofs.lemmas.List.Sums.{sum_by-cons}
use Rattle.xb_model.specs.declared.line.TheConstants.{LINES}
use Rattle.xb_model.specs.Records.{rows_of}
use Rattle.xb_model.specs.Rows.{LoopRow}
use Rattle.xb_parts.specs.declared.load.Load.{Load}
use Rattle.xb_parts.specs.Counts.{FittingRangesHaveFew, counted, row_bytes}
use Rattle.xb_parts.proofs.PlannedRanges.{sum-more, sum-none}

-- the number of a list's elements as a sum
length-sum : {X : Type 0} (xs : List X) → length xs ≡ sum_by (λ x. 1) xs
length-sum [] = refl
length-sum (x ∷ xs) = omega (arith, sum_by-cons (λ x. 1) x xs, length-sum xs)

-- what a row counts where a test passes it
weight : (LoopRow → ℕ) → (LoopRow → Bool) → LoopRow → ℕ
weight h test row = cond (test row) (h row) 0

sum-kept : (h : LoopRow → ℕ) (b : Bool) (row : LoopRow) (rows : List LoopRow)
    → sum_by h (cond b (row ∷ rows) rows) ≡ cond b (h row) 0 + sum_by h rows
sum-kept h true row rows = sum_by-cons h row rows
sum-kept h false row rows = omega arith

sum-filter : (h : LoopRow → ℕ) (test : LoopRow → Bool) (rows : List LoopRow) → sum_by h (filter test rows) ≡ sum_by (weight h test) rows
unfolding weight
sum-filter h test [] = refl
sum-filter h test (row ∷ rows) =
    omega (arith, sum-kept h (test row) row (filter test rows), sum-filter h test rows, sum_by-cons (weight h test) row rows)

sum-plus : (f g k : LoopRow → ℕ) → ((row : LoopRow) → f row ≡ g row + k row) → (rows : List LoopRow)
    → sum_by f rows ≡ sum_by g rows + sum_by k rows
sum-plus f g k same [] = refl
sum-plus f g k same (row ∷ rows) =
    omega (arith, same row, sum-plus f g k same rows, sum_by-cons f row rows, sum_by-cons g row rows, sum_by-cons k row rows)

-- a line from a on, before b
abbrev is_from : ℕ → ℕ → LoopRow → Bool
is_from a b row = leb a row.line && ltb row.line b

abbrev is_on : ℕ → LoopRow → Bool
is_on l row = eqb row.line l

none_between : (a x : ℕ) → (leb a x && ltb x a) ≡ false
none_between a x = at (cases_lt x a)
  where
    at : (x < a) ⊎ (a ≤ x) → (leb a x && ltb x a) ≡ false
    at (inl low) = and_left (leb a x) (ltb x a) (lt-leb a x low)
    at (inr high) = and_right (leb a x) (ltb x a) (le-ltb x a high)

one_more : (a m x v : ℕ) → a ≤ m
    → cond (leb a x && ltb x (m + 1)) v 0 ≡ cond (leb a x && ltb x m) v 0 + cond (eqb x m) v 0
one_more a m x v low = at (cases_order x m)
  where
    at : (x ≡ m) ⊎ ((x < m) ⊎ (m < x))
        → cond (leb a x && ltb x (m + 1)) v 0 ≡ cond (leb a x && ltb x m) v 0 + cond (eqb x m) v 0
    at (inl same) = rw (le-leb a x (omega arith), lt-ltb x (m + 1) (omega arith), le-ltb x m (omega arith), eq-eqb x m same) (omega arith)
    at (inr (inl less)) = rw (lt-ltb x (m + 1) (omega arith), lt-ltb x m less, ne_eqb x m (λ e. omega (arith, e))) (omega arith)
    at (inr (inr more)) =
        rw (and_right (leb a x) (ltb x (m + 1)) (le-ltb x (m + 1) (omega arith)), and_right (leb a x) (ltb x m) (le-ltb x m (omega arith)), ne_eqb x m (λ e. omega (arith, e))) (omega arith)

filter-none : (a : ℕ) (rows : List LoopRow) → filter (is_from a a) rows ≡ []
filter-none a [] = refl
filter-none a (row ∷ rows) = cond-false _ _ _ (none_between a row.line) ∙ filter-none a rows

-- the rows of one line more
sum_from-more : (h : LoopRow → ℕ) (rows : List LoopRow) (a m : ℕ) → a ≤ m
    → sum_by h (filter (is_from a (m + 1)) rows) ≡ sum_by h (filter (is_from a m) rows) + sum_by h (rows_of m rows)
unfolding weight
sum_from-more h rows a m low =
    sum-filter h (is_from a (m + 1)) rows
    ∙ sum-plus (weight h (is_from a (m + 1))) (weight h (is_from a m)) (weight h (is_on m)) (λ row. one_more a m row.line (h row) low) rows
    ∙ ap₂ (λ (x y : ℕ). x + y) (sym (sum-filter h (is_from a m) rows)) (sym (sum-filter h (is_on m) rows))

-- the rows of lines whose counts are few enough are as many as these
sum_from-loads : (f : Load → ℕ) (h : LoopRow → ℕ) (rows : List LoopRow) (loads : List Load) (most : ℕ) (d : Load)
    → ((l : ℕ) → l < LINES → f (slice_index_or loads l d) ≡ counted (sum_by h (rows_of l rows)))
    → length loads ≡ LINES → most < 2 ^ 63
    → (a n b : ℕ) → a + n ≡ b → b ≤ LINES → sum_by f (slice_range loads a b) ≤ most
    → sum_by h (filter (is_from a b) rows) ≡ sum_by f (slice_range loads a b)
sum_from-loads f h rows loads most d are lines small a zero b e within few =
    let same : b ≡ a = omega arith in
    ap (λ (k : ℕ). sum_by h (filter (is_from a k) rows)) same
    ∙ ap (sum_by h) (filter-none a rows)
    ∙ sym (ap (λ (k : ℕ). sum_by f (slice_range loads a k)) same ∙ sum-none f loads a)
sum_from-loads f h rows loads most d are lines small a (suc n) b e within few =
    let m : ℕ = a + n in
    let next : b ≡ m + 1 = omega arith in
    let more : sum_by f (slice_range loads a b) ≡ sum_by f (slice_range loads a m) + f (slice_index_or loads m d)
    = ap (λ (k : ℕ). sum_by f (slice_range loads a k)) next ∙ sum-more f loads a m d (omega arith) (omega (arith, lines)) in
    let here : f (slice_index_or loads m d) ≡ counted (sum_by h (rows_of m rows)) = are m (omega arith) in
    let rest = sum_from-loads f h rows loads most d are lines small a n m refl (omega arith) (omega (arith, more, few)) in
    let all : sum_by h (filter (is_from a b) rows) ≡ sum_by h (filter (is_from a m) rows) + sum_by h (rows_of m rows)
    = ap (λ (k : ℕ). sum_by h (filter (is_from a k) rows)) next ∙ sum_from-more h rows a m (omega arith) in
    omega (arith, more, here, rest, all, few)

pub fitting_ranges_have_few : FittingRangesHaveFew
fitting_ranges_have_few rows loads most range are lines up within few_records few_bytes fits =
    let n : ℕ = range.end - range.first in
    let records = sum_from-loads (λ load. load.records) (λ row. 1) rows loads most.records most
    (λ l below. (are l most below).0 ∙ ap counted (length-sum (rows_of l rows))) lines few_records range.first n range.end (omega arith) within fits.0 in
    let bytes = sum_from-loads (λ load. load.bytes) row_bytes rows loads most.bytes most
    (λ l below. (are l most below).1) lines few_bytes range.first n range.end (omega arith) within fits.1 in
    (omega (arith, length-sum (filter (is_from range.first range.end) rows), records, fits.0), omega (arith, bytes, fits.1))
