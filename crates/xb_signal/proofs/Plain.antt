-- Segments without noise, each tone at the amplitude of the table.
use Rattle.std.specs.Prelude.{ℕ, ◌*◌, List, map, ℤ}
use Rattle.std.specs.List.{range_with_len}
use Rattle.xb_signal.specs.declared.segment.Segment.{Segment}
use Rattle.xb_signal.specs.declared.segment.Sound.{Sound}
use Rattle.xb_signal.specs.OneSample.{clean_sample, cut}
use Rattle.xb_signal.specs.Settings.{standard_setting}

abbrev pub plain_sample : Sound → ℕ → ℤ
plain_sample sound n = cut (clean_sample standard_setting 0 sound n)

abbrev pub plain_tones : Sound → ℕ → List ℤ
plain_tones sound ms = map (λ n. plain_sample sound n) (range_with_len 0 (ms * 8))

abbrev pub plain_sound : Segment → List ℤ
plain_sound segment = plain_tones segment.sound segment.ms
