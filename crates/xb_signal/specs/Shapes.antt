-- How the two tones of a key are disturbed, 8 samples in a ms.
use Rattle.std.specs.Prelude.{ℕ, ◌+◌, ◌*◌, ◌/◌, ◌%◌, ◌-◌, Bool, false, ◌&&◌, if◌then◌else◌, nat_le, nat_lt, ℤ, pos, ◌+ℤ◌}
use Rattle.xb_model.specs.declared.key.Tone.{Tone as Pair}
use Rattle.xb_signal.specs.declared.key_sample.Starts.{Starts}
use Rattle.xb_signal.specs.declared.shape.Shape.{Shape}
use Rattle.xb_chance.specs.Words.{state_after, word_of}
use Rattle.xb_signal.specs.Waves.{scaled, wave_at}

abbrev pub standard_shape : Shape
standard_shape = record {
  pitch = 1000;
  low_late_ms = 0;
  high_late_ms = 0;
  hole_from_ms = 0;
  hole_ms = 0;
  is_drawn = false;
}

-- a frequency at a pitch in thousandths, to the nearest whole Hz, and a half up
abbrev pub tuned : ℕ → ℕ → ℕ
tuned pitch hz = (hz * pitch + 500) / 1000

-- a place of a period of 8,000 that is drawn: by a word of the generator that begins in the word of a state
abbrev pub drawn : ℕ → ℕ → ℕ
drawn state steps = word_of (state_after (word_of state) steps) % 8000

-- where the two tones of a key begin that is sent in a state of the noise: at 0, or at places that are drawn
abbrev pub starts_of : Shape → ℕ → Starts
starts_of shape state =
    if shape.is_drawn then record { low = drawn state 1; high = drawn state 2 } else record { low = 0; high = 0 }

-- sample n of a frequency from a place on
abbrev pub wave_from : ℕ → ℕ → ℕ → ℤ
wave_from place hz n = wave_at ((place + hz * n) % 8000)

-- sample n of a frequency that begins so many ms late, at a place, and is silent before
abbrev pub late_sample : ℕ → ℕ → ℕ → ℕ → ℤ
late_sample late_ms place hz n = if nat_lt n (late_ms * 8) then pos 0 else wave_from place hz (n - late_ms * 8)

-- whether sample n of a key lies in its hole
abbrev pub is_in_hole : Shape → ℕ → Bool
is_in_hole shape n = nat_le (shape.hole_from_ms * 8) n && nat_lt n ((shape.hole_from_ms + shape.hole_ms) * 8)

-- sample n of a key that is sent in a state, its low tone at one amplitude and its high one at the other
abbrev pub keyed_sample : ℕ → ℕ → Shape → ℕ → Pair → ℕ → ℤ
keyed_sample low high shape state pair n =
    if is_in_hole shape n then pos 0
    else scaled low (late_sample shape.low_late_ms (starts_of shape state).low (tuned shape.pitch pair.low) n)
    +ℤ scaled high (late_sample shape.high_late_ms (starts_of shape state).high (tuned shape.pitch pair.high) n)
