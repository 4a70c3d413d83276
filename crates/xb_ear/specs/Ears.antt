-- What is heard of samples.
use Rattle.std.specs.Prelude.{ℕ, zero, suc, ◌-◌, ◌*◌, ◌/◌, if◌then◌else◌, nat_lt, List, map, take, drop, length, fold, Option, None, ℤ}
use Rattle.std.specs.List.{range_with_len}
use Rattle.xb_model.specs.Image.{image_on}
use Rattle.xb_ear.specs.declared.sight.Sight.{Sight}
use Rattle.xb_ear.specs.declared.hearing.Heard.{Heard}
use Rattle.xb_ear.specs.declared.hearing.Hearing.{Hearing}
use Rattle.xb_ear.specs.declared.echo_tails.TheConstants.{TAIL_WINDOWS}
use Rattle.xb_ear.specs.Levels.{levels_of}
use Rattle.xb_ear.specs.Pairs.{seen}
use Rattle.xb_ear.specs.Steady.{beside, lessened}
use Rattle.xb_ear.specs.Hearings.{hearer}
use Rattle.xb_ear.specs.Tails.{without_tail}

-- a window of 80 samples begins with each 20th sample
abbrev pub window : List ℤ → ℕ → List ℤ
window samples w = take 80 (drop (20 * w) samples)

-- how many whole windows there are in n samples
abbrev pub windows_in : ℕ → ℕ
windows_in n = (n - 60) / 20

-- the least that lay beside the six of late, in the windows before one
abbrev pub least_before : List ℤ → ℕ → ℕ
least_before samples zero = 0
least_before samples (suc w) = lessened (least_before samples w) (beside (levels_of (window samples w)))

-- the pair that stands out in a window, by its number
abbrev pub sight_at : List ℤ → ℕ → Option Sight
sight_at samples w = seen (least_before samples w) (window samples w)

-- what stands out in windows, where 64 silent ones stand before the first
abbrev pub held : List ℤ → ℕ → Option Sight
held samples n = if nat_lt n TAIL_WINDOWS then None else sight_at samples (n - TAIL_WINDOWS)

-- what stood out in the 64 windows before a window: 160 ms
abbrev pub held_before : List ℤ → ℕ → List (Option Sight)
held_before samples w = map (held samples) (range_with_len w TAIL_WINDOWS)

-- what a window sees, but for tails
abbrev pub seen_at : List ℤ → ℕ → Option Sight
seen_at samples w = without_tail (held_before samples w) (sight_at samples w)

-- what the windows of samples see
abbrev pub sights : List ℤ → List (Option Sight)
sights samples = map (seen_at samples) (range_with_len 0 (windows_in (length samples)))

-- the keys that have ended in samples
abbrev pub heard : List ℤ → List Heard
heard samples = image_on hearer (sights samples)

-- what is known after samples
abbrev pub hearing_after : List ℤ → Hearing
hearing_after samples = fold hearer.next hearer.start (sights samples)

-- the samples that stand in no whole window but the last
abbrev pub recent_of : List ℤ → List ℤ
recent_of samples = drop (20 * windows_in (length samples)) samples
