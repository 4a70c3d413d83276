-- What lines have of a deck.
use Rattle.std.specs.Prelude.{ℕ, ◌≡◌, ◌≤◌, ◌<◌, ◌+◌, List, length, sum_by, slice_range}
use Rattle.std.specs.List.{All}
use Rattle.xb_model.specs.declared.line.TheConstants.{LINES}
use Rattle.xb_parts.specs.declared.range.LineRange.{LineRange}
use Rattle.xb_parts.specs.Ranges.{CoverAll}
use Rattle.xb_parts.specs.declared.load.Load.{Load}

-- no more than this
abbrev pub IsWithin : Load → Load → Type 0
IsWithin load most = (load.records ≤ most.records) × (load.bytes ≤ most.bytes)

-- the records of the lines from a on, up to but without b
abbrev pub records_of : List Load → ℕ → ℕ → ℕ
records_of loads a b = sum_by (λ load. load.records) (slice_range loads a b)

-- and their bytes
abbrev pub bytes_of : List Load → ℕ → ℕ → ℕ
bytes_of loads a b = sum_by (λ load. load.bytes) (slice_range loads a b)

-- what a range has is no more than this
abbrev pub Fits : List Load → Load → LineRange → Type 0
Fits loads most range =
    (records_of loads range.first range.end ≤ most.records) × (bytes_of loads range.first range.end ≤ most.bytes)

-- a range that ends with the last line, or would have more than this with the line after it
abbrev pub IsFull : List Load → Load → LineRange → Type 0
IsFull loads most range =
    range.end < LINES → Fits loads most (record { first = range.first; end = range.end + 1 }) → ⊥

-- ranges that fit, and of which each is as long as it may be, are the fewest that fit
abbrev pub FullRangesAreFewest : Type 0
FullRangesAreFewest =
    (loads : List Load) (most : Load) (ranges others : List LineRange) → length loads ≡ LINES
    → CoverAll ranges → All (IsFull loads most) ranges
    → CoverAll others → All (Fits loads most) others
    → length ranges ≤ length others
