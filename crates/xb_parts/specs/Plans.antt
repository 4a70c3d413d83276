-- The parts of a deck: what they may have, and which are asked for.
use Rattle.std.specs.Prelude.{ℕ, ◌≡◌, ◌≤◌, ◌<◌, ◌+◌, List, length, Option, Some, None}
use Rattle.std.specs.List.{All}
use Rattle.xb_deck.specs.declared.deck.TheConstants.{MOST_DECK_BYTES}
use Rattle.xb_rows.specs.declared.scan.TheConstants.{MOST_RECORDS}
use Rattle.xb_parts.specs.declared.load.Load.{Load}
use Rattle.xb_parts.specs.declared.range.LineRange.{LineRange}
use Rattle.xb_parts.specs.Loads.{records_of, Fits}
use Rattle.xb_parts.specs.PlanFaults.{IsPlanFault}
use Rattle.xb_parts.specs.Ranges.{CoverAll}
use Rattle.xb_parts.specs.declared.planning.PlanPartsFault.{PlanPartsFault}
use Rattle.xb_parts.specs.declared.planning.PlanPartsFault.TheVariants as fault

-- the most records, and the bytes that a table and the 18 bytes of the cut and the header leave
pub record LeavesRoom (table : ℕ) (most : Load) : Type 0 where
  pub records : most.records ≤ MOST_RECORDS
  pub bytes : table + 18 + most.bytes ≤ MOST_DECK_BYTES

-- all of that
pub record IsRoom (table : ℕ) (most : Load) : Type 0 where
  pub records : most.records ≡ MOST_RECORDS
  pub bytes : table + 18 + most.bytes ≡ MOST_DECK_BYTES

-- the records of each range fit into a deck with a table of so many bytes
abbrev pub FitDecks : ℕ → List Load → List LineRange → Type 0
FitDecks table loads ranges = (most : Load) × LeavesRoom table most × All (Fits loads most) ranges

-- no range has more records than this
abbrev pub HaveAtMost : ℕ → List Load → List LineRange → Type 0
HaveAtMost m loads ranges = All (λ range. records_of loads range.first range.end ≤ m) ranges

-- no other ranges that fit into decks are fewer
abbrev pub AreFewest : ℕ → List Load → List LineRange → Type 0
AreFewest table loads ranges =
    (others : List LineRange) → CoverAll others → FitDecks table loads others → length ranges ≤ length others

-- as even as the lines allow: wherever n ranges or fewer fit into decks, and have no more than m records
-- each, these are n or fewer, and have no more either
abbrev pub AreEven : ℕ → ℕ → List Load → List LineRange → Type 0
AreEven n table loads ranges =
    (m : ℕ) (others : List LineRange) → CoverAll others → FitDecks table loads others → length others ≤ n
    → HaveAtMost m loads others → (length ranges ≤ n) × HaveAtMost m loads ranges

-- the ranges that are asked for: as few as may be; or at most n, as even as the lines allow, and more than n
-- only where no fewer fit
abbrev pub AreAsked : Option ℕ → ℕ → List Load → List LineRange → Type 0
AreAsked None table loads ranges = AreFewest table loads ranges
AreAsked (Some n) table loads ranges =
    AreEven n table loads ranges × (n < length ranges → AreFewest table loads ranges)

-- why there are no parts: the table leaves no room, or a line has more than that room by itself
abbrev pub IsPlanPartsFault : ℕ → List Load → PlanPartsFault → Type 0
IsPlanPartsFault table loads fault.Table = MOST_DECK_BYTES < table + 18
IsPlanPartsFault table loads (fault.Plan f) = (most : Load) × IsRoom table most × IsPlanFault loads most f

-- n ranges, or fewer, are enough for all lines, if each may have no more than this
abbrev pub AreEnough : ℕ → List Load → Load → Type 0
AreEnough n loads most =
    (ranges : List LineRange) × CoverAll ranges × All (Fits loads most) ranges × (length ranges ≤ n)

-- the fewest records for which n ranges are enough, or all that there may be, where they are not enough for
-- fewer
pub record IsLeast (n : ℕ) (loads : List Load) (most least : Load) : Type 0 where
  pub bytes : least.bytes ≡ most.bytes
  pub within : least.records ≤ most.records
  pub fewer : (m : ℕ) → m < least.records → AreEnough n loads (record { records = m; bytes = most.bytes }) → ⊥
  pub enough : least.records < most.records → AreEnough n loads least

-- the most that the parts that are asked for are to have, where they may have so much
abbrev pub IsWanted : Option ℕ → List Load → Load → Load → Type 0
IsWanted None loads most wanted = wanted ≡ most
IsWanted (Some n) loads most wanted = IsLeast n loads most wanted
