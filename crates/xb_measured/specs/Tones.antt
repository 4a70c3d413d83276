-- The frequency and the level of a tone, in 200 samples.
use Rattle.std.specs.Prelude.{ℕ, ◌+◌, ◌-◌, ◌*◌, ◌/◌, ◌^◌, ◌≤◌, List, [], ◌∷◌, drop, take, if◌then◌else◌, int_le, int_lt, slice_index_or, ℤ, pos, ◌+ℤ◌, ◌-ℤ◌, ◌*ℤ◌, unsigned_abs}
use Rattle.xb_measured.specs.declared.heard.MeasuredTone.{MeasuredTone}
use Rattle.xb_measured.specs.declared.wave_sums.Sums.{Sums}
use Rattle.xb_measured.specs.Levels.{count_up_to}
use Rattle.xb_measured.specs.Waves.{sums_of}

-- each is one of 160 samples
pub record AreSmall (sums : Sums) : Type 0 where
  pub cosine : unsigned_abs sums.cosine ≤ 104857600000000
  pub sine : unsigned_abs sums.sine ≤ 104857600000000

-- the cosine of the angle by which the later sums are turned from the first, and its sine, by the lengths of both. The
-- sum with the sine goes down as the phase of a tone goes up
abbrev pub along : Sums → Sums → ℤ
along first later = first.cosine *ℤ later.cosine +ℤ first.sine *ℤ later.sine

abbrev pub across : Sums → Sums → ℤ
across first later = first.sine *ℤ later.cosine -ℤ first.cosine *ℤ later.sine

-- 10,000 times the tangents of 0.9 degrees, 2.7 and so on to 89.1, each rounded
unfoldable pub tangents : List ℕ
tangents =
    157 ∷ 472 ∷ 787 ∷ 1104 ∷ 1423 ∷ 1745 ∷ 2071 ∷ 2401 ∷ 2736 ∷ 3076 ∷ 3424 ∷ 3779 ∷ 4142 ∷ 4515 ∷ 4899
    ∷ 5295 ∷ 5704 ∷ 6128 ∷ 6569 ∷ 7028 ∷ 7508 ∷ 8012 ∷ 8541 ∷ 9099 ∷ 9691 ∷ 10319 ∷ 10990 ∷ 11708 ∷ 12482
    ∷ 13319 ∷ 14229 ∷ 15224 ∷ 16319 ∷ 17532 ∷ 18887 ∷ 20413 ∷ 22148 ∷ 24142 ∷ 26464 ∷ 29208 ∷ 32506 ∷ 36554
    ∷ 41653 ∷ 48288 ∷ 57297 ∷ 70264 ∷ 90579 ∷ 127062 ∷ 212049 ∷ 636567 ∷ []

-- in 40 samples each Hz more turns a tone by 1.8 degrees more: so it is off by as many Hz as half steps are reached, up
-- to 50
abbrev pub off_of : ℤ → ℤ → ℕ
off_of x y = if int_le x (pos 0) then 50 else count_up_to (10000 * unsigned_abs y / unsigned_abs x) tangents

abbrev pub hz_with : ℕ → ℤ → ℕ → ℕ
hz_with hz y off = if int_lt y (pos 0) then hz - off else hz + off

-- a raised cosine hears a tone weaker that is off: 1,000 times the square of what all weights are together over what
-- they are by the cosines of 0 Hz, 1 Hz and so on to 50 Hz from their middle on, each rounded
unfoldable pub gains : List ℕ
gains =
    1000 ∷ 1001 ∷ 1002 ∷ 1005 ∷ 1008 ∷ 1013 ∷ 1019 ∷ 1026 ∷ 1034 ∷ 1043 ∷ 1053 ∷ 1065 ∷ 1077 ∷ 1092 ∷ 1107
    ∷ 1124 ∷ 1142 ∷ 1162 ∷ 1184 ∷ 1207 ∷ 1232 ∷ 1259 ∷ 1288 ∷ 1319 ∷ 1352 ∷ 1388 ∷ 1426 ∷ 1467 ∷ 1511
    ∷ 1558 ∷ 1609 ∷ 1663 ∷ 1721 ∷ 1783 ∷ 1850 ∷ 1922 ∷ 1999 ∷ 2082 ∷ 2171 ∷ 2266 ∷ 2369 ∷ 2481 ∷ 2601
    ∷ 2730 ∷ 2870 ∷ 3022 ∷ 3187 ∷ 3365 ∷ 3559 ∷ 3770 ∷ 4000 ∷ []

-- the mean of both, by the gain
abbrev pub level_of : Sums → Sums → ℕ → ℕ
level_of first later off =
    (unsigned_abs first.cosine ^ 2 + unsigned_abs first.sine ^ 2
    + (unsigned_abs later.cosine ^ 2 + unsigned_abs later.sine ^ 2))
    * slice_index_or gains off 0 / 1280000000000000000000

abbrev pub tone_with : ℕ → Sums → Sums → ℕ → MeasuredTone
tone_with hz first later off =
    record { hz = hz_with hz (across first later) off; level = level_of first later off }

abbrev pub tone_by : ℕ → Sums → Sums → MeasuredTone
tone_by hz first later = tone_with hz first later (off_of (along first later) (across first later))

-- by 160 samples, and by 160 that begin 40 later
abbrev pub tone_of : ℕ → List ℤ → MeasuredTone
tone_of hz stretch = tone_by hz (sums_of hz 0 (take 160 stretch)) (sums_of hz 40 (drop 40 stretch))
