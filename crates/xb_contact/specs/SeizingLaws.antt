-- What watching for seizures comes to.
use Rattle.std.specs.Prelude.{◌≡◌, ℕ, ◌<◌, List, ◌++◌, true}
use Rattle.xb_contact.specs.declared.hold.Hold.{Hold}
use Rattle.xb_contact.specs.Holds.{lasting, runs_of, total_of}
use Rattle.xb_contact.specs.Seizures.{all_seize, seized}
use Rattle.xb_contact.specs.Seizing.{Seizing, all_passed, begun_seizing, certain_of, line_after}

-- what is given of a recording has the runs of its record in which makes that are too short are breaks, however it was
-- cut into holds, and in however many parts a long break is given
abbrev pub PassesTheSeized : ℕ → ℕ → ℕ → Type 0
PassesTheSeized least release most =
    (holds : List Hold) → runs_of (all_passed (begun_seizing least release most) holds) ≡ seized least release holds

-- what was given stands, whatever comes later
abbrev pub PassesForGood : Type 0
PassesForGood =
    (line : Seizing) (holds later : List Hold)
    → all_passed line (holds ++ later) ≡ certain_of line holds ++ all_passed (line_after line holds) later

-- no tick is lost or added
abbrev pub PassesAllTime : Type 0
PassesAllTime =
    (least release most : ℕ) (holds : List Hold) → 0 < release
    → total_of (all_passed (begun_seizing least release most) holds) ≡ total_of holds

-- where each make seizes, each hold is given as it is
abbrev pub PassesEachHold : Type 0
PassesEachHold =
    (release most : ℕ) (holds : List Hold) → all_passed (begun_seizing 0 release most) holds ≡ lasting holds

-- where each make on hook lasts long enough, and so where each make seizes, the runs stay as they are
abbrev pub LeavesSeizures : Type 0
LeavesSeizures =
    (least release : ℕ) (holds : List Hold) → all_seize least release 0 (runs_of holds) ≡ true
    → seized least release holds ≡ runs_of holds

abbrev pub LeavesAllAtZero : Type 0
LeavesAllAtZero = (release : ℕ) (holds : List Hold) → seized 0 release holds ≡ runs_of holds

-- it has the recording's time
abbrev pub KeepsAllTime : Type 0
KeepsAllTime = (least release : ℕ) (holds : List Hold) → total_of (seized least release holds) ≡ total_of holds
