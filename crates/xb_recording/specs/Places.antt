-- Where a reader stands in a recording.
use Rattle.std.specs.Prelude.{ℕ, ◌+◌, ◌-◌, ◌^◌, Option, Some, None, min, ◌==◌, if◌then◌else◌}
use Rattle.xb_recording.specs.declared.reader.Reader.{Reader}
use Rattle.xb_recording.specs.declared.reader.Source.{Source}
use Rattle.xb_recording.specs.declared.reader.Source.TheVariants as sources
use Rattle.xb_samples.specs.Samples.{bits_state}
use Rattle.xb_samples.specs.Sounds.{sound_state}

-- one more, up to the greatest number that is counted
abbrev pub one_more : ℕ → ℕ
one_more n = min (n + 1) (2 ^ 64 - 1)

-- how many lines of a text have ended; the next byte belongs to the line after them
abbrev pub lines_ended : Reader → ℕ
lines_ended reader = if reader.is_whole then one_more reader.lines else reader.lines

-- how many have ended after a byte
abbrev pub lines_ended_by : ℕ → ℕ → ℕ
lines_ended_by byte ended = if byte == 10 then one_more ended else ended

-- the line of the last byte, counted from 1
abbrev pub line_number : Reader → ℕ
line_number reader = one_more reader.lines

-- the tick of the first samples of a sound
abbrev pub first_tick : ℕ
first_tick = 2 ^ 62

-- the sample that comes next, counted from 1, where the samples have begun
abbrev pub sample_number : Source → Option ℕ
sample_number (sources.Bits bits) = Some (one_more (bits_state bits).count)
sample_number (sources.Sound sound) = Some (one_more ((sound_state sound).count - first_tick))
sample_number (sources.Vcd vcd) = None
sample_number (sources.Columns table) = None
sample_number (sources.Gpiomon gpiomon) = None
sample_number (sources.WavHead head) = None
