-- Ranges that are as long as they may be are the fewest.
use Rattle.std.proofs.Common.{◌≡◌, ◌≤◌, ◌<◌, ◌+◌, ◌-◌, ℕ, zero, suc, List, [], ◌∷◌, get_or, length, ap, ◌∙◌, arith, inl, inr}
use Rattle.std.specs.Prelude.{sum_by, slice_range, ◌⊎◌}
use Rattle.std.specs.List.{AllByRecursion}
use Rattle.std.proofs.lemmas.Bool.{cases_lt}
use Rattle.std.proofs.lemmas.List.Elements.{recursion_from_All}
use Rattle.xb_model.specs.declared.line.TheConstants.{LINES}
use Rattle.xb_parts.specs.declared.load.Load.{Load}
use Rattle.xb_parts.specs.declared.range.LineRange.{LineRange}
use Rattle.xb_parts.specs.Loads.{IsWithin, Fits, FullRangesAreFewest, IsFull}
use Rattle.xb_parts.specs.Ranges.{Cover}
use Rattle.xb_parts.proofs.PlannedRanges.{sum-more, sum-none}

module _ (f : Load → ℕ) (loads : List Load) (d : Load) where
  sum : ℕ → ℕ → ℕ
  sum a b = sum_by f (slice_range loads a b)

  sum-to : (a m j : ℕ) → a ≤ m → m + j ≤ length loads → sum a m ≤ sum a (m + j)
  unfolding sum
  sum-to a m zero low within =
      let same : m + 0 ≡ m = omega arith in omega (arith, ap (λ (k : ℕ). sum_by f (slice_range loads a k)) same)
  sum-to a m (suc j) low within =
      let rest = sum-to a m j low (omega arith) in
      let same : m + suc j ≡ m + j + 1 = omega arith in
      let more = ap (λ (k : ℕ). sum_by f (slice_range loads a k)) same ∙ sum-more f loads a (m + j) d (omega arith) (omega arith) in
      omega (arith, rest, more)

  sum-from : (a a' k : ℕ) → a' ≤ a → a + k ≤ length loads → sum a (a + k) ≤ sum a' (a + k)
  unfolding sum
  sum-from a a' zero low within =
      let same : a + 0 ≡ a = omega arith in
      omega (arith, ap (λ (k : ℕ). sum_by f (slice_range loads a k)) same ∙ sum-none f loads a)
  sum-from a a' (suc k) low within =
      let rest = sum-from a a' k low (omega arith) in
      let same : a + suc k ≡ a + k + 1 = omega arith in
      let more = ap (λ (n : ℕ). sum_by f (slice_range loads a n)) same ∙ sum-more f loads a (a + k) d (omega arith) (omega arith) in
      let more' = ap (λ (n : ℕ). sum_by f (slice_range loads a' n)) same ∙ sum-more f loads a' (a + k) d (omega arith) (omega arith) in
      omega (arith, rest, more, more')

  -- lines among others have no more
  pub within-sum : (a b a' b' : ℕ) → a' ≤ a → a ≤ b → b ≤ b' → b' ≤ length loads
      → sum_by f (slice_range loads a b) ≤ sum_by f (slice_range loads a' b')
  unfolding sum
  within-sum a b a' b' low up high all =
      let k : ℕ = b - a in
      let j : ℕ = b' - b in
      let is : a + k ≡ b = omega arith in
      let is' : b + j ≡ b' = omega arith in
      let first = sum-from a a' k low (omega arith) in
      let next = sum-to a' b j (omega arith) (omega arith) in
      omega (
        arith,
        first,
        next,
        ap (λ (n : ℕ). sum_by f (slice_range loads a n)) is,
        ap (λ (n : ℕ). sum_by f (slice_range loads a' n)) is,
        ap (λ (n : ℕ). sum_by f (slice_range loads a' n)) is',
      )

module _ (loads : List Load) (most : Load) (all : length loads ≡ LINES) where
  pub Cover-le : (a b : ℕ) (ranges : List LineRange) → Cover a b ranges → a ≤ b
  Cover-le a b [] cover = omega arith
  Cover-le a b (range ∷ ranges) cover = omega (arith, cover.1, Cover-le range.end b ranges cover.2)

  -- a line of ranges that fit has no more by itself
  pub line_fits : (a n : ℕ) (d : Load) (ranges : List LineRange) → Cover a LINES ranges
      → AllByRecursion (Fits loads most) ranges → a ≤ n → n < LINES → IsWithin (get_or loads n d) most
  line_fits a n d [] cover fit low below = absurd (omega (arith, cover))
  line_fits a n d (range ∷ ranges) cover fit low below =
      at (λ high. line_fits range.end n d ranges cover.2 fit.1 high below) (cases_lt n range.end)
    where
      first : range.first ≤ n
      first = omega (arith, cover.0, low)

      within : range.end ≤ length loads
      within = omega (arith, all, Cover-le range.end LINES ranges cover.2)

      alone : (f : Load → ℕ) → n < range.end → f (get_or loads n d) ≤ sum_by f (slice_range loads range.first range.end)
      alone f inside =
          let some : n ≤ n = omega arith in
          let next : n + 1 ≤ range.end = omega (arith, inside) in
          let here : n < length loads = omega (arith, all) in
          omega (
            arith,
            sum-none f loads n,
            sum-more f loads n n d some here,
            within-sum f loads d n (n + 1) range.first range.end first (omega arith) next within,
          )

      at : (range.end ≤ n → IsWithin (get_or loads n d) most) → (n < range.end) ⊎ (range.end ≤ n)
          → IsWithin (get_or loads n d) most
      at later (inr high) = later high
      at later (inl inside) = (
        omega (arith, fit.0.0, alone (λ l. l.records) inside),
        omega (arith, fit.0.1, alone (λ l. l.bytes) inside),
      )

  -- a range that begins no later and fits ends no later than one that is full
  ends_first : (range other : LineRange) → other.first ≤ range.first → range.first < range.end → other.end ≤ LINES
      → IsFull loads most range → Fits loads most other → other.end ≤ range.end
  ends_first range other low up within full fits = at (cases_lt range.end other.end)
    where
      at : (range.end < other.end) ⊎ (other.end ≤ range.end) → other.end ≤ range.end
      at (inr h) = h
      at (inl h) =
          absurd
          (full (omega (arith, h, within)) (
            omega (arith, fits.0, within-sum (λ l. l.records) loads most range.first (range.end + 1) other.first other.end low (omega arith) (omega (arith, h)) (omega (arith, all, within))),
            omega (arith, fits.1, within-sum (λ l. l.bytes) loads most range.first (range.end + 1) other.first other.end low (omega arith) (omega (arith, h)) (omega (arith, all, within))),
          ))

  fewest : (a a' : ℕ) (ranges others : List LineRange) → a' ≤ a → Cover a LINES ranges → Cover a' LINES others
      → AllByRecursion (IsFull loads most) ranges → AllByRecursion (Fits loads most) others → length ranges ≤ length others
  fewest a a' [] others low cover cover' full fit = omega arith
  fewest a a' (range ∷ ranges) [] low cover cover' full fit =
      absurd (omega (arith, low, cover', cover.1, Cover-le range.end LINES ranges cover.2))
  fewest a a' (range ∷ ranges) (other ∷ others) low cover cover' full fit =
      let first : range.first ≡ a = cover.0 in
      let first' : other.first ≡ a' = cover'.0 in
      let up : a < range.end = cover.1 in
      let within : other.end ≤ LINES = Cover-le other.end LINES others cover'.2 in
      let ends : other.end ≤ range.end = ends_first range other (omega arith) (omega arith) within full.0 fit.0 in
      let rest = fewest range.end other.end ranges others ends cover.2 cover'.2 full.1 fit.1 in
      omega (arith, rest)

pub full_ranges_are_fewest : FullRangesAreFewest
full_ranges_are_fewest loads most ranges others all cover full cover' fit =
    fewest loads most all 0 0 ranges others (omega arith) cover cover'
    (recursion_from_All (IsFull loads most) ranges full) (recursion_from_All (Fits loads most) others fit)
