-- As many ranges as are asked for, as even as the lines allow.
use Rattle.std.proofs.Common.{◌≡◌, ◌≤◌, ◌<◌, ℕ, List, Option, Some, None, Result, Ok, Err, IfOk, IfErr, get_or, length, ap, subst, sym, arith, inl, inr}
use Rattle.std.specs.Prelude.{◌⊎◌}
use Rattle.std.specs.List.{All}
use Rattle.std.proofs.lemmas.Bool.{cases_lt}
use Rattle.std.proofs.lemmas.List.Elements.{recursion_from_All}
use Rattle.xb_model.specs.declared.line.TheConstants.{LINES}
use Rattle.xb_parts.proofs.FewestRanges.{full_ranges_are_fewest, line_fits}
use Rattle.xb_parts.specs.declared.load.Load.{Load}
use Rattle.xb_parts.specs.declared.range.LineRange.{LineRange}
use Rattle.xb_parts.specs.Loads.{IsWithin, Fits, IsFull}
use Rattle.xb_parts.specs.PlanFaults.{IsPlanFault}
use Rattle.xb_parts.specs.declared.planning.PlanFault.{PlanFault}
use Rattle.xb_parts.specs.declared.planning.PlanFault.TheVariants.{Line, NoMemory}
use Rattle.xb_parts.specs.Ranges.{CoverAll}
use Rattle.xb_parts.specs.Plans.{AreAsked, AreEnough, AreEven, AreFewest, FitDecks, IsLeast, IsRoom, IsWanted}

-- what fits has no more than more
Fits-more : (loads : List Load) (most more : Load) (ranges : List LineRange) → IsWithin most more
    → All (Fits loads most) ranges → All (Fits loads more) ranges
Fits-more loads most more ranges within fit =
    λ k d h. let it = fit k d h in (omega (arith, it.0, within.0), omega (arith, it.1, within.1))

-- so many are not enough where a line has more by itself
pub not_enough : (n line : ℕ) (loads : List Load) (most : Load) → length loads ≡ LINES → line < LINES
    → ((d : Load) → IsWithin (get_or loads line d) most → ⊥) → AreEnough n loads most → ⊥
not_enough n line loads most all below exceeds enough =
    let low : 0 ≤ line = omega arith in
    exceeds most
    (line_fits loads most all 0 line most enough.0 enough.1 (recursion_from_All (Fits loads most) enough.0 enough.2) low below)

-- ranges that fit into decks fit the room that a table leaves
fit_room : (table : ℕ) (loads : List Load) (most : Load) (ranges : List LineRange) → IsRoom table most
    → FitDecks table loads ranges → All (Fits loads most) ranges
fit_room table loads most ranges room fit =
    Fits-more loads fit.0 most ranges
    (omega (arith, fit.1.records, room.records), omega (arith, fit.1.bytes, room.bytes)) fit.2

-- ranges that are full are no more than are enough
pub few : (loads : List Load) (most : Load) (ranges : List LineRange) → length loads ≡ LINES → CoverAll ranges
    → All (IsFull loads most) ranges → (n : ℕ) → AreEnough n loads most → length ranges ≤ n
few loads most ranges all cover full n enough =
    let least = full_ranges_are_fewest loads most ranges enough.0 all cover full enough.1 enough.2 in
    omega (arith, least, enough.3)

-- what is wanted is no more than there may be
pub wanted_within : (parts : Option ℕ) (loads : List Load) (most wanted : Load) → IsWanted parts loads most wanted
    → IsWithin wanted most
wanted_within None loads most wanted is =
    (omega (arith, ap (λ (l : Load). l.records) is), omega (arith, ap (λ (l : Load). l.bytes) is))
wanted_within (Some n) loads most wanted least = (least.within, omega (arith, least.bytes))

-- ranges that fit what is wanted fit into decks
fit_decks : (table : ℕ) (loads : List Load) (most wanted : Load) (ranges : List LineRange) → IsRoom table most
    → IsWithin wanted most → All (Fits loads wanted) ranges → FitDecks table loads ranges
fit_decks table loads most wanted ranges room within fit =
    (wanted, record { records = omega (arith, within.0, room.records); bytes = omega (arith, within.1, room.bytes) }, fit)

module _ (table : ℕ) (loads : List Load) (most wanted : Load) (ranges : List LineRange) (room : IsRoom table most)
    (all : length loads ≡ LINES) (cover : CoverAll ranges) (fit : All (Fits loads wanted) ranges)
    (full : All (IsFull loads wanted) ranges) where
  fewest : wanted.bytes ≡ most.bytes → most.records ≤ wanted.records → AreFewest table loads ranges
  fewest bytes records others cover' fit' =
      let more = Fits-more loads most wanted others (records, omega (arith, bytes)) (fit_room table loads most others room fit') in
      full_ranges_are_fewest loads wanted ranges others all cover full cover' more

  even : (n : ℕ) → IsLeast n loads most wanted → AreEven n table loads ranges
  even n least m others cover' fit' count' few' = (
    at (cases_lt wanted.records most.records),
    λ k d h. omega (arith, (fit k d h).0, enough_for),
  )
    where
      fits : All (Fits loads (record { records = m; bytes = most.bytes })) others
      fits = λ k d h. let it = fit_room table loads most others room fit' k d h in (few' k d h, it.1)

      enough_for : wanted.records ≤ m
      enough_for = by (cases_lt m wanted.records)
        where
          by : (m < wanted.records) ⊎ (wanted.records ≤ m) → wanted.records ≤ m
          by (inl h) = absurd (least.fewer m h (others, cover', fits, count'))
          by (inr h) = h

      at : (wanted.records < most.records) ⊎ (most.records ≤ wanted.records) → length ranges ≤ n
      at (inl h) = few loads wanted ranges all cover full n (least.enough h)
      at (inr h) = omega (arith, fewest least.bytes h others cover' fit', count')

  asked : (parts : Option ℕ) → IsWanted parts loads most wanted → AreAsked parts table loads ranges
  asked None is = fewest (ap (λ (l : Load). l.bytes) is) (omega (arith, ap (λ (l : Load). l.records) is))
  asked (Some n) least = (even n least, λ more. at more (cases_lt wanted.records most.records))
    where
      at : n < length ranges → (wanted.records < most.records) ⊎ (most.records ≤ wanted.records) → AreFewest table loads ranges
      at more (inl h) = absurd (omega (arith, more, few loads wanted ranges all cover full n (least.enough h)))
      at more (inr h) = fewest least.bytes h

-- the same of what a plan gives
pub fit_of_plan : {V E : Type 0} (table : ℕ) (loads : List Load) (most wanted : Load) (items : V → List LineRange)
    (plan : Result V E) → IsRoom table most → IsWithin wanted most
    → IfOk plan (λ v. All (Fits loads wanted) (items v)) → IfOk plan (λ v. FitDecks table loads (items v))
fit_of_plan table loads most wanted items (Ok v) room within fit =
    fit_decks table loads most wanted (items v) room within fit
fit_of_plan table loads most wanted items (Err e) room within fit = tt

pub asked_of_plan : {V E : Type 0} (table : ℕ) (loads : List Load) (most wanted : Load) (items : V → List LineRange)
    (plan : Result V E) → IsRoom table most → (parts : Option ℕ) → IsWanted parts loads most wanted
    → length loads ≡ LINES → IfOk plan (λ v. CoverAll (items v)) → IfOk plan (λ v. All (Fits loads wanted) (items v))
    → IfOk plan (λ v. All (IsFull loads wanted) (items v)) → IfOk plan (λ v. AreAsked parts table loads (items v))
asked_of_plan table loads most wanted items (Ok v) room parts is all cover fit full =
    asked table loads most wanted (items v) room all cover fit full parts is
asked_of_plan table loads most wanted items (Err e) room parts is all cover fit full = tt

-- a line that has more than is wanted has more than there may be
pub fault_of_plan : {V : Type 0} (loads : List Load) (most wanted : Load) (plan : Result V PlanFault) (parts : Option ℕ)
    → IsWanted parts loads most wanted → length loads ≡ LINES → IfErr plan (IsPlanFault loads wanted)
    → IfErr plan (IsPlanFault loads most)
fault_of_plan loads most wanted (Ok v) parts is all fault = tt
fault_of_plan loads most wanted (Err NoMemory) parts is all fault = tt
fault_of_plan loads most wanted (Err (Line line)) None is all fault =
    (fault.0, λ d fits. fault.1 d (subst (λ (load : Load). IsWithin (get_or loads line d) load) (sym is) fits))
fault_of_plan loads most wanted (Err (Line line)) (Some n) least all fault =
    (fault.0, at (cases_lt wanted.records most.records))
  where
    at : (wanted.records < most.records) ⊎ (most.records ≤ wanted.records) → (d : Load)
        → IsWithin (get_or loads line d) most → ⊥
    at (inl h) d fits = not_enough n line loads wanted all fault.0 fault.1 (least.enough h)
    at (inr h) d fits = fault.1 d (omega (arith, fits.0, h), omega (arith, fits.1, least.bytes))
