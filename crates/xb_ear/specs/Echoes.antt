-- Keys of unequal level are no tails, and echoes are.
use Rattle.std.specs.Prelude.{◌≡◌, ℕ, ◌+◌, ◌*◌, ◌<◌, ◌≤◌, List, map, length, Option, None, ℤ}
use Rattle.std.specs.List.{range_with_len}
use Rattle.xb_ear.specs.declared.sight.Sight.{Sight}
use Rattle.xb_ear.specs.Ears.{seen_at, sight_at, windows_in}
use Rattle.xb_ear.specs.HeardKeys.{pairs_in}
use Rattle.xb_ear.specs.LongRuns.{label, pairs_of_runs}
use Rattle.xb_ear.specs.Receivers.{keys_of_sound}
use Rattle.xb_ear.specs.Tails.{counted, strength}

-- what counts of a window before is at most 3 times what this one holds: three times as much of the same pair, or six
-- times as much of another
abbrev pub IsNoLouder : Option Sight → Option Sight → Type 0
IsNoLouder before seen = counted seen before ≤ 3 * strength seen

-- or more than that
abbrev pub Outdoes : Option Sight → Option Sight → Type 0
Outdoes before seen = 3 * strength seen < counted seen before

-- in a sound whose windows are each no weaker than that beside those before them, nothing is a tail: what is heard are
-- the long runs of the pairs that stand out
abbrev pub UnequalKeysAreHeard : Type 0
UnequalKeysAreHeard = (samples : List ℤ)
    → ((w k : ℕ) → k < w → w < windows_in (length samples) → IsNoLouder (sight_at samples k) (sight_at samples w))
    → pairs_in (keys_of_sound samples)
    ≡ pairs_of_runs (map (λ w. label (sight_at samples w)) (range_with_len 0 (windows_in (length samples))))

-- a window sees nothing where six in a row, of the 64 before it, each outdo it
abbrev pub EchoesAreNoKeys : Type 0
EchoesAreNoKeys = (samples : List ℤ) (k w : ℕ) → k + 6 ≤ w → w ≤ k + 64
    → ((d : ℕ) → d < 6 → Outdoes (sight_at samples (k + d)) (sight_at samples w)) → seen_at samples w ≡ None
