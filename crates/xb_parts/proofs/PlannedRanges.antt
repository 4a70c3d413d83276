-- How ranges of lines are planned, line by line.
use Rattle.std.proofs.Common.{◌≡◌, ◌≤◌, ◌<◌, ◌+◌, ◌-◌, ℕ, List, [], ◌∷◌, ◌++◌, get_or, take, drop, length, refl, sym, ap, ◌∙◌, arith, subst}
use Rattle.std.specs.Prelude.{sum_by, slice_range}
use Rattle.std.specs.List.{All}
use Rattle.std.proofs.lemmas.List.{get_or-drop, length-drop}
use Rattle.std.proofs.lemmas.List.Elements.{All-push}
use Rattle.std.proofs.lemmas.List.Sums.{sum_by_more}
use Rattle.xb_model.specs.declared.line.TheConstants.{LINES}
use Rattle.xb_parts.specs.declared.load.Load.{Load}
use Rattle.xb_parts.specs.declared.range.LineRange.{LineRange}
use Rattle.xb_parts.specs.Loads.{IsWithin, bytes_of, records_of, Fits, IsFull}
use Rattle.xb_parts.specs.Ranges.{Cover}

-- the sum over one line more
pub sum-more : (f : Load → ℕ) (loads : List Load) (a n : ℕ) (d : Load) → a ≤ n → n < length loads
    → sum_by f (slice_range loads a (n + 1)) ≡ sum_by f (slice_range loads a n) + f (get_or loads n d)
sum-more f loads a n d low below =
    let m : ℕ = n - a in
    let more : n + 1 - a ≡ m + 1 = omega arith in
    let here : a + m ≡ n = omega arith in
    let within : m < length (drop a loads) = omega (arith, length-drop a loads) in
    ap (λ (k : ℕ). sum_by f (take k (drop a loads))) more
    ∙ sum_by_more f (drop a loads) m d within
    ∙ ap (λ (x : Load). sum_by f (take m (drop a loads)) + f x) (get_or-drop a loads m d ∙ ap (λ (k : ℕ). get_or loads k d) here)

-- the sum over no line
pub sum-none : (f : Load → ℕ) (loads : List Load) (n : ℕ) → sum_by f (slice_range loads n n) ≡ 0
sum-none f loads n =
    let none : n - n ≡ 0 = omega arith in
    ap (λ (k : ℕ). sum_by f (take k (drop n loads))) none

-- one range more
pub Cover-push : (a b c : ℕ) (ranges : List LineRange) (range : LineRange) → Cover a b ranges
    → range.first ≡ b → range.end ≡ c → b < c → Cover a c (ranges ++ range ∷ [])
Cover-push a b c [] range cover first end up = (omega (arith, cover), omega (arith, cover), end)
Cover-push a b c (r ∷ ranges) range cover first end up =
    (cover.0, cover.1, Cover-push r.end b c ranges range cover.2 first end up)

-- the ranges before a line, and what the lines since then have, before line n
pub record IsPlanned (loads : List Load) (most : Load) (ranges : List LineRange) (first : ℕ) (load : Load) (n : ℕ) : Type 0 where
  pub cover : Cover 0 first ranges
  pub fit : All (Fits loads most) ranges
  pub full : All (IsFull loads most) ranges
  pub low : first ≤ n
  pub some : 0 < n → first < n
  pub records : load.records ≡ records_of loads first n
  pub bytes : load.bytes ≡ bytes_of loads first n
  pub within : IsWithin load most

-- before line 0
pub IsPlanned-start : (loads : List Load) (most load : Load) → load.records ≡ 0 → load.bytes ≡ 0 → IsPlanned loads most [] 0 load 0
IsPlanned-start loads most load no_records no_bytes = record {
  cover = refl;
  fit = λ k d h. absurd (omega arith);
  full = λ k d h. absurd (omega arith);
  low = omega arith;
  some = λ h. absurd (omega arith);
  records = no_records ∙ sym (sum-none (λ l. l.records) loads 0);
  bytes = no_bytes ∙ sym (sum-none (λ l. l.bytes) loads 0);
  within = (omega (arith, no_records), omega (arith, no_bytes));
}

module _ (loads : List Load) (most : Load) (ranges : List LineRange) (first : ℕ) (load here : Load) (n : ℕ)
    (planned : IsPlanned loads most ranges first load n) (below : n < length loads)
    (is : (d : Load) → here ≡ get_or loads n d) (fits : IsWithin here most) where
  -- the line goes with those before it
  pub IsPlanned-with : (load' : Load) → load'.records ≡ load.records + here.records → load'.bytes ≡ load.bytes + here.bytes
      → IsWithin load' most → IsPlanned loads most ranges first load' (n + 1)
  IsPlanned-with load' records_are bytes_are within = record {
    cover = planned.cover;
    fit = planned.fit;
    full = planned.full;
    low = omega (arith, planned.low);
    some = λ h. omega (arith, planned.low);
    records =
        records_are ∙ ap (λ (k : ℕ). k + here.records) planned.records
        ∙ ap (λ (l : Load). records_of loads first n + l.records) (is here)
        ∙ sym (sum-more (λ l. l.records) loads first n here planned.low below);
    bytes =
        bytes_are ∙ ap (λ (k : ℕ). k + here.bytes) planned.bytes
        ∙ ap (λ (l : Load). bytes_of loads first n + l.bytes) (is here)
        ∙ sym (sum-more (λ l. l.bytes) loads first n here planned.low below);
    within = within;
  }

  -- the line is the first of those since the last range: it has all that they have
  pub first-line : first ≡ n → (load.records ≡ 0) × (load.bytes ≡ 0)
  first-line e = (
    planned.records ∙ ap (λ (a : ℕ). records_of loads a n) e ∙ sum-none (λ l. l.records) loads n,
    planned.bytes ∙ ap (λ (a : ℕ). bytes_of loads a n) e ∙ sum-none (λ l. l.bytes) loads n,
  )

  -- a range ends before the line
  pub IsPlanned-cut : (range : LineRange) (ranges' : List LineRange) → range.first ≡ first → range.end ≡ n → first < n
      → ranges' ≡ ranges ++ range ∷ []
      → (load' : Load) → load'.records ≡ load.records + here.records → load'.bytes ≡ load.bytes + here.bytes
      → (IsWithin load' most → ⊥) → IsPlanned loads most ranges' n here (n + 1)
  IsPlanned-cut range ranges' starts ends up more load' records_are bytes_are exceeds =
      let load_fits : Fits loads most range = (
        subst (λ k. k ≤ most.records) (planned.records ∙ ends_at (λ a b. records_of loads a b)) planned.within.0,
        subst (λ k. k ≤ most.bytes) (planned.bytes ∙ ends_at (λ a b. bytes_of loads a b)) planned.within.1,
      ) in
      let records : records_of loads range.first (range.end + 1) ≡ records_of loads first n + (get_or loads n here).records
      = one_more (λ a b. records_of loads a b) ∙ sum-more (λ l. l.records) loads first n here planned.low below in
      let bytes : bytes_of loads range.first (range.end + 1) ≡ bytes_of loads first n + (get_or loads n here).bytes
      = one_more (λ a b. bytes_of loads a b) ∙ sum-more (λ l. l.bytes) loads first n here planned.low below in
      let is_full : IsFull loads most range = λ inside fits.
      exceeds (
        omega (arith, fits.0, records, records_are, planned.records, ap (λ (l : Load). l.records) (is here)),
        omega (arith, fits.1, bytes, bytes_are, planned.bytes, ap (λ (l : Load). l.bytes) (is here)),
      ) in
      let low : n ≤ n = omega arith in
      record {
        cover = subst (λ rs. Cover 0 n rs) (sym more) (Cover-push 0 first n ranges range planned.cover starts ends up);
        fit = subst (λ rs. All (Fits loads most) rs) (sym more) (All-push (Fits loads most) ranges range planned.fit load_fits);
        full = subst (λ rs. All (IsFull loads most) rs) (sym more) (All-push (IsFull loads most) ranges range planned.full is_full);
        low = omega arith;
        some = λ h. omega arith;
        records =
            ap (λ (l : Load). l.records) (is here)
            ∙ sym (sum-more (λ l. l.records) loads n n here low below ∙ ap (λ (k : ℕ). k + (get_or loads n here).records) (sum-none (λ l. l.records) loads n) ∙ omega arith);
        bytes =
            ap (λ (l : Load). l.bytes) (is here)
            ∙ sym (sum-more (λ l. l.bytes) loads n n here low below ∙ ap (λ (k : ℕ). k + (get_or loads n here).bytes) (sum-none (λ l. l.bytes) loads n) ∙ omega arith);
        within = fits;
      }
    where
      ends_at : (f : ℕ → ℕ → ℕ) → f first n ≡ f range.first range.end
      ends_at f = ap (λ (a : ℕ). f a n) (sym starts) ∙ ap (λ (b : ℕ). f range.first b) (sym ends)

      one_more : (f : ℕ → ℕ → ℕ) → f range.first (range.end + 1) ≡ f first (n + 1)
      one_more f = ap (λ (a : ℕ). f a (range.end + 1)) starts ∙ ap (λ (b : ℕ). f first (b + 1)) ends

-- after the last line
pub IsPlanned-end : (loads : List Load) (most : Load) (ranges : List LineRange) (first : ℕ) (load : Load) (n : ℕ)
    → IsPlanned loads most ranges first load n → 0 < n → n ≡ LINES
    → (range : LineRange) (ranges' : List LineRange) → range.first ≡ first → range.end ≡ n → ranges' ≡ ranges ++ range ∷ []
    → Cover 0 n ranges' × All (Fits loads most) ranges' × All (IsFull loads most) ranges'
IsPlanned-end loads most ranges first load n planned some all range ranges' starts ends more =
    let fits : Fits loads most range = (
      subst (λ k. k ≤ most.records) (planned.records ∙ ends_at (λ a b. records_of loads a b)) planned.within.0,
      subst (λ k. k ≤ most.bytes) (planned.bytes ∙ ends_at (λ a b. bytes_of loads a b)) planned.within.1,
    ) in
    let is_full : IsFull loads most range = λ inside fits. absurd (omega (arith, inside, ends, all)) in (
      subst (λ rs. Cover 0 n rs) (sym more) (Cover-push 0 first n ranges range planned.cover starts ends (planned.some some)),
      subst (λ rs. All (Fits loads most) rs) (sym more) (All-push (Fits loads most) ranges range planned.fit fits),
      subst (λ rs. All (IsFull loads most) rs) (sym more) (All-push (IsFull loads most) ranges range planned.full is_full),
    )
  where
    ends_at : (f : ℕ → ℕ → ℕ) → f first n ≡ f range.first range.end
    ends_at f = ap (λ (a : ℕ). f a n) (sym starts) ∙ ap (λ (b : ℕ). f range.first b) (sym ends)
