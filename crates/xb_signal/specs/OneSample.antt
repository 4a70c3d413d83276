-- Samples of what sounds, and of 16 bits.
use Rattle.std.specs.Prelude.{ℕ, ◌+◌, Bool, false, ◌&&◌, if◌then◌else◌, nat_le, ℤ, pos, negsuc, ◌+ℤ◌, ◌-ℤ◌}
use Rattle.xb_chance.specs.Swings.{swing}
use Rattle.xb_signal.specs.declared.moment.Moment.{Moment}
use Rattle.xb_signal.specs.declared.segment.Sound.{Sound}
use Rattle.xb_signal.specs.declared.segment.Sound.TheVariants.{Written, Keyed}
use Rattle.xb_signal.specs.declared.setting.Setting.{Setting}
use Rattle.xb_signal.specs.Shapes.{keyed_sample}
use Rattle.xb_signal.specs.Steadies.{steady_peak, steady_sample}
use Rattle.xb_signal.specs.Waves.{mixed}

-- sample n of what sounds that begins in a state, with nothing added
abbrev pub clean_sample : Setting → ℕ → Sound → ℕ → ℤ
clean_sample setting state (Written tones) n = mixed setting.low setting.high tones n
clean_sample setting state (Keyed pair) n = keyed_sample setting.low setting.high setting.shape state pair n

-- whether it depends on its state
abbrev pub is_drawn : Setting → Sound → Bool
is_drawn setting (Written tones) = false
is_drawn setting (Keyed pair) = setting.shape.is_drawn

-- whether a sample has 16 bits
abbrev pub fits : ℤ → Bool
fits (pos x) = nat_le x 32767
fits (negsuc x) = nat_le x 32767

-- a sample, or where it has more than 16 bits the greatest or the least that has not
abbrev pub cut : ℤ → ℤ
cut (pos x) = if nat_le x 32767 then pos x else pos 32767
cut (negsuc x) = if nat_le x 32767 then negsuc x else negsuc 32767

-- sample n after a moment, of what sounds from then on and of what sounds all through
abbrev pub quiet_sample : Setting → Moment → Sound → ℕ → ℤ
quiet_sample setting moment sound n =
    clean_sample setting moment.noise sound n +ℤ steady_sample setting.steady (moment.place + n)

-- and of the noise
abbrev pub sample_at : Setting → Moment → Sound → ℕ → ℤ
sample_at setting moment sound n =
    cut (quiet_sample setting moment sound n +ℤ swing setting.noise_peak moment.noise n)

-- how much may be added to a sample of what sounds, or taken from it
abbrev pub peak_of : Setting → ℕ
peak_of setting = setting.noise_peak + steady_peak setting.steady

-- whether a sample has 16 bits with anything that is added up to the peak
abbrev pub has_room : ℕ → ℤ → Bool
has_room peak sample = fits (sample +ℤ pos peak) && fits (sample -ℤ pos peak)
