-- What listening to the bell comes to.
use Rattle.std.specs.Prelude.{◌≡◌, ℕ, ◌<◌, ◌≤◌, List, [], ◌∷◌, ◌++◌, map, reverse, false, true}
use Rattle.xb_contact.specs.declared.level.Level.TheVariants.{Open, Closed}
use Rattle.xb_contact.specs.declared.hold.Hold.{Hold}
use Rattle.xb_contact.specs.Holds.{hold_of, runs_of, total_of}
use Rattle.xb_contact.specs.Rings.{answered, ends_in_burst, written}
use Rattle.xb_contact.specs.Ringing.{Ringing, all_rung, begun_ringing, ringing_after}
use Rattle.xb_contact.specs.Seizures.{is_open, seized}

-- what is given of a recording has the runs of its record in which calls that answer the bell are breaks, however it was
-- cut into holds
abbrev pub PassesTheAnswered : ℕ → ℕ → ℕ → Type 0
PassesTheAnswered wait least release =
    (holds : List Hold)
    → runs_of (all_rung (begun_ringing wait least release) holds) ≡ answered wait least release holds

-- and so has what is passed of it to the seizing
abbrev pub SeizesTheAnswered : Type 0
SeizesTheAnswered =
    (wait least release : ℕ) (holds : List Hold)
    → seized least release (all_rung (begun_ringing wait least release) holds)
    ≡ seized least release (answered wait least release holds)

-- what was given stands, whatever comes later
abbrev pub RingsForGood : Type 0
RingsForGood =
    (line : Ringing) (holds later : List Hold)
    → all_rung line (holds ++ later) ≡ all_rung line holds ++ all_rung (ringing_after line holds) later

-- no tick is lost or added
abbrev pub RingsAllTime : Type 0
RingsAllTime = (line : Ringing) (holds : List Hold) → total_of (all_rung line holds) ≡ total_of holds

-- where no answer counts, each hold is given as it is
abbrev pub RingsEachHold : Type 0
RingsEachHold =
    (least release : ℕ) (holds : List Hold) → all_rung (begun_ringing 0 least release) holds ≡ holds

-- no beginning of runs ends in a burst
abbrev pub HasNoBurst : List Hold → Type 0
HasNoBurst runs =
    (before later : List Hold) → before ++ later ≡ runs → ends_in_burst (reverse before) ≡ false

-- a record in which no burst stands stays as it is
abbrev pub LeavesCalls : Type 0
LeavesCalls =
    (wait least release : ℕ) (holds : List Hold) → HasNoBurst (runs_of holds)
    → answered wait least release holds ≡ runs_of holds

-- the same holds, all of them open
abbrev pub opened : List Hold → List Hold
opened holds = map (λ hold. hold_of Open hold.ticks) holds

-- no make of them is as long as `least`
abbrev pub AreShortMakes : ℕ → List Hold → Type 0
AreShortMakes least [] = Unit {0}
AreShortMakes least (hold ∷ rest) = (is_open hold.level ≡ false → hold.ticks < least) × AreShortMakes least rest

-- a break of a call, and the make after it
pub record Flash : Type 0 where
  pub rest : ℕ
  pub make : ℕ

-- what comes of a call after its first make
abbrev pub flashes : List Flash → List Hold
flashes [] = []
flashes (flash ∷ later) = hold_of Open flash.rest ∷ hold_of Closed flash.make ∷ flashes later

-- no break of it releases the line
abbrev pub AreFlashes : ℕ → List Flash → Type 0
AreFlashes release [] = Unit {0}
AreFlashes release (flash ∷ later) = (flash.rest < release) × AreFlashes release later

-- a call: its first make, what comes of it after that, and the break that ends it
abbrev pub call_runs : ℕ → List Flash → ℕ → List Hold
call_runs make talk end = hold_of Closed make ∷ (flashes talk ++ hold_of Open end ∷ [])

-- its first make takes the line off hook, and no other break than its last releases the line
pub record IsCall (least release : ℕ) (make : ℕ) (talk : List Flash) (end : ℕ) : Type 0 where
  pub long : least ≤ make
  pub goes_on : AreFlashes release talk
  pub releases : release ≤ end

-- after what takes no line off hook, a call whose first make begins within `wait` ms
pub record Answers (wait least release : ℕ) (pause : List Hold) (make : ℕ) (talk : List Flash) (end : ℕ)
    : Type 0 where
  pub waits : AreShortMakes least pause
  pub soon : total_of pause < wait
  pub call : IsCall least release make talk end

-- a call that answers a burst leaves only an open line, and the line is on hook then, after no burst
abbrev pub OpensAnswers : Type 0
OpensAnswers =
    (wait least release : ℕ) (past pause : List Hold) (make : ℕ) (talk : List Flash) (end : ℕ)
    (later : List Hold)
    → ends_in_burst past ≡ true → Answers wait least release pause make talk end
    → written wait least release Closed 0 past ((pause ++ call_runs make talk end) ++ later)
    ≡ opened (pause ++ call_runs make talk end)
    ++ written wait least release Closed 0 (hold_of Open end ∷ []) later
