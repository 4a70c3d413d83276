-- What is left of a night of ringing and of calls.
use Rattle.std.specs.Prelude.{◌≡◌, ℕ, ◌+◌, ◌≤◌, List, [], ◌∷◌, ◌++◌, length, reverse, true, ◌==◌, if◌then◌else◌}
use Rattle.xb_contact.specs.declared.level.Level.TheVariants.{Open, Closed}
use Rattle.xb_contact.specs.declared.hold.Hold.{Hold}
use Rattle.xb_contact.specs.Holds.{hold_of, runs_of}
use Rattle.xb_contact.specs.Rings.{answered, awaits, ends_in_burst}
use Rattle.xb_contact.specs.RingingLaws.{AreShortMakes, Flash, IsCall, call_runs, opened}
use Rattle.xb_contact.specs.Seizures.{seized}

-- a part of a night: runs on hook, or a call
pub data Part : Type 0 where
  on_hook : List Hold → Part
  call : ℕ → List Flash → ℕ → Part

abbrev pub night_runs : List Part → List Hold
night_runs [] = []
night_runs (on_hook runs ∷ rest) = runs ++ night_runs rest
night_runs (call make talk end ∷ rest) = call_runs make talk end ++ night_runs rest

-- no make on hook takes the line off hook, and each call does
abbrev pub AreParts : ℕ → ℕ → List Part → Type 0
AreParts least release [] = Unit {0}
AreParts least release (on_hook runs ∷ rest) = AreShortMakes least runs × AreParts least release rest
AreParts least release (call make talk end ∷ rest) =
    IsCall least release make talk end × AreParts least release rest

-- what is left of them after runs on hook, which stand here with the last one first: on hook the line is open, and so it
-- is in a call that begins where an answer counts; any other call stays whole
abbrev pub night_left : ℕ → List Hold → List Part → List Hold
night_left wait past [] = []
night_left wait past (on_hook runs ∷ rest) = opened runs ++ night_left wait (reverse runs ++ past) rest
night_left wait past (call make talk end ∷ rest) =
    (if awaits wait past == 0 then call_runs make talk end else opened (call_runs make talk end))
    ++ night_left wait (hold_of Open end ∷ []) rest

-- of a recording that ends on hook the seizing gets that
abbrev pub LeavesOwnCalls : Type 0
LeavesOwnCalls =
    (wait least release : ℕ) (parts : List Part) (holds : List Hold)
    → runs_of holds ≡ night_runs parts → AreParts least release parts
    → seized least release (answered wait least release holds) ≡ runs_of (night_left wait [] parts)

-- a make and the break after it
pub record Period : Type 0 where
  pub make : ℕ
  pub rest : ℕ

abbrev pub rings : List Period → List Hold
rings [] = []
rings (period ∷ later) = hold_of Closed period.make ∷ hold_of Open period.rest ∷ rings later

abbrev pub ArePeriods : List Period → Type 0
ArePeriods [] = Unit {0}
ArePeriods (period ∷ later) =
    (15 ≤ period.make + period.rest) × (period.make + period.rest ≤ 67) × ArePeriods later

-- 8 periods in a row, and more, are a burst, and an answer counts then
abbrev pub CountsAfterBursts : Type 0
CountsAfterBursts =
    (wait : ℕ) (before : List Hold) (periods : List Period) → ArePeriods periods → 8 ≤ length periods
    → (ends_in_burst (reverse (before ++ rings periods)) ≡ true)
    × (awaits wait (reverse (before ++ rings periods)) ≡ wait)
