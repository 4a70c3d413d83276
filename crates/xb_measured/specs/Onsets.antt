-- When each tone of a key began: by how much of it there is in the samples round the beginning of the key.
use Rattle.std.specs.Prelude.{ℕ, ◌+◌, ◌-◌, ◌*◌, ◌/◌, ◌^◌, ◌&&◌, List, drop, take, length, max, min, nat_le, if◌then◌else◌, Option, Some, None, ℤ, unsigned_abs}
use Rattle.std.specs.List.{range_with_len, sum_by}
use Rattle.xb_ear.specs.declared.hearing.Heard.{Heard as HeardKey}
use Rattle.xb_model.specs.declared.key.Tone.{Tone as Pair}
use Rattle.xb_measured.specs.declared.heard.Onsets.{Onsets}
use Rattle.xb_measured.specs.Waves.{sums_of}

-- how much of a frequency is in samples, as a square
abbrev pub level_in : ℕ → List ℤ → ℕ
level_in hz samples = unsigned_abs (sums_of hz 0 samples).cosine ^ 2 + unsigned_abs (sums_of hz 0 samples).sine ^ 2

-- in 160 samples, each time 5 ms later
abbrev pub level_at : ℕ → List ℤ → ℕ → ℕ
level_at hz round step = level_in hz (take 160 (drop (40 * step) round))

-- in thousandths of the last of them, in which the tone sounds throughout
abbrev pub share_of : ℕ → ℕ → ℕ
share_of level last = min (1000 * level / max last 1) 1000

-- so many tenths of a ms a tone has sounded before the middle of the last ones: each thousandth stands for one of 5 ms
abbrev pub sounded : ℕ → List ℤ → ℕ
sounded hz round =
    sum_by (λ step. share_of (level_at hz round step) (level_at hz round 5)) (range_with_len 0 5) / 20

abbrev pub onsets_in : Pair → List ℤ → Onsets
onsets_in pair round = record { low = sounded pair.low round; high = sounded pair.high round }

-- 360 samples from a window on
abbrev pub round_at : List ℤ → ℕ → List ℤ
round_at kept place = take 360 (drop (20 * place) kept)

-- those from 8 windows before the first one of a key on, where they are kept
abbrev pub onsets_at : List ℤ → Pair → ℕ → Option Onsets
onsets_at kept pair first =
    if nat_le 8 first && nat_le (first - 8 + 18) (length kept / 20)
    then Some (onsets_in pair (round_at kept (first - 8))) else None

abbrev pub onsets_of : List ℤ → ℕ → HeardKey → Option Onsets
onsets_of kept gone key = onsets_at kept key.sight.pair (key.first - gone)
