-- How many records the lines of a range have, line by line.
use Rattle.std.proofs.Common.{◌≡◌, ◌≤◌, ◌<◌, ◌+◌, ◌-◌, ◌∙◌, ◌&&◌, ℕ, true, false, leb, ltb, List, get_or, take, drop, length, sym, ap, arith, inl, inr}
use Rattle.std.specs.Prelude.{◌⊎◌, min, sum_by, slice_range}
use Rattle.std.proofs.lemmas.Bool.{and_cases, and_parts, cases_lt, leb-false, leb-true, ltb-false, ltb-true}
use Rattle.std.proofs.lemmas.List.{length-drop, take_all}
use Rattle.xb_parts.proofs.PlannedRanges.{sum-more}
use Rattle.xb_parts.specs.Counts.{counted}
use Rattle.xb_parts.specs.Loads.{records_of}
use Rattle.xb_parts.specs.declared.load.Load.{Load}
use Rattle.xb_parts.specs.declared.range.LineRange.{LineRange}

-- what the test of a line says
pub in_range : (range : LineRange) (line n : ℕ) → line ≡ n → (leb range.first line && ltb line range.end) ≡ true
    → (range.first ≤ n) × (n < range.end)
in_range range line n is has =
    let both = and_parts (leb range.first line) (ltb line range.end) has in
    (omega (arith, leb-true range.first line both.0, is), omega (arith, ltb-true line range.end both.1, is))

pub out_of_range : (range : LineRange) (line n : ℕ) → line ≡ n → (leb range.first line && ltb line range.end) ≡ false
    → (n < range.first) ⊎ (range.end ≤ n)
out_of_range range line n is none = at (and_cases (leb range.first line) (ltb line range.end) none)
  where
    at : (leb range.first line ≡ false) ⊎ (ltb line range.end ≡ false) → (n < range.first) ⊎ (range.end ≤ n)
    at (inl h) = inl (omega (arith, leb-false range.first line h, is))
    at (inr h) = inr (omega (arith, ltb-false line range.end h, is))

-- those of its lines before line n
abbrev pub records_before : List Load → LineRange → ℕ → ℕ
records_before loads range n = counted (records_of loads range.first (min range.end n))

no_records : (loads : List Load) (a b : ℕ) → b ≤ a → records_of loads a b ≡ 0
no_records loads a b low =
    let none : b - a ≡ 0 = omega arith in
    ap (λ (k : ℕ). sum_by (λ load. load.records) (take k (drop a loads))) none

pub records_before-start : (loads : List Load) (range : LineRange) → records_before loads range 0 ≡ 0
records_before-start loads range =
    let low : min range.end 0 ≤ range.first = omega arith in
    omega (arith, no_records loads range.first (min range.end 0) low)

-- one line more, which the range has
pub records_before-with : (loads : List Load) (range : LineRange) (n : ℕ) (here : Load) → n < length loads
    → ((d : Load) → here ≡ get_or loads n d) → range.first ≤ n → n < range.end
    → records_before loads range (n + 1) ≡ counted (records_before loads range n + here.records)
records_before-with loads range n here below is low high =
    let next : min range.end (n + 1) ≡ n + 1 = omega arith in
    let last : min range.end n ≡ n = omega arith in
    omega (
      arith,
      ap (λ (k : ℕ). records_of loads range.first k) next,
      ap (λ (k : ℕ). records_of loads range.first k) last,
      sum-more (λ load. load.records) loads range.first n here low below,
      ap (λ (load : Load). load.records) (is here),
    )

-- one that it has not
pub records_before-same : (loads : List Load) (range : LineRange) (n : ℕ) → (n < range.first) ⊎ (range.end ≤ n)
    → records_before loads range (n + 1) ≡ records_before loads range n
records_before-same loads range n (inl before) =
    let next : min range.end (n + 1) ≤ range.first = omega (arith, before) in
    let last : min range.end n ≤ range.first = omega (arith, before) in
    omega (arith, no_records loads range.first (min range.end (n + 1)) next, no_records loads range.first (min range.end n) last)
records_before-same loads range n (inr after) =
    let same : min range.end (n + 1) ≡ min range.end n = omega (arith, after) in
    ap (λ (k : ℕ). counted (records_of loads range.first k)) same

-- all lines
pub records_before-all : (loads : List Load) (range : LineRange) (n : ℕ) → n ≡ length loads
    → records_before loads range n ≡ counted (records_of loads range.first range.end)
records_before-all loads range n all = at (cases_lt n range.end)
  where
    whole : (b : ℕ) → n ≤ b → slice_range loads range.first b ≡ drop range.first loads
    whole b high =
        let within : length (drop range.first loads) ≤ b - range.first = omega (arith, all, length-drop range.first loads) in
        take_all (b - range.first) (drop range.first loads) within

    at : (n < range.end) ⊎ (range.end ≤ n) → records_before loads range n ≡ counted (records_of loads range.first range.end)
    at (inl high) =
        let last : min range.end n ≡ n = omega (arith, high) in
        let same : n ≤ n = omega arith in
        let up : n ≤ range.end = omega (arith, high) in
        ap (λ (k : ℕ). counted (records_of loads range.first k)) last
        ∙ ap (λ (lines : List Load). counted (sum_by (λ load. load.records) lines)) (whole n same ∙ sym (whole range.end up))
    at (inr low) =
        let last : min range.end n ≡ range.end = omega (arith, low) in
        ap (λ (k : ℕ). counted (records_of loads range.first k)) last
