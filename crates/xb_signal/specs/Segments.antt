-- Segments, and the samples of them, 8 of them in a ms.
use Rattle.std.specs.Prelude.{ℕ, ◌+◌, ◌*◌, List, [], ◌∷◌, ◌++◌, Bool, if◌then◌else◌, map, ℤ, pos}
use Rattle.std.specs.List.{list_all, range_with_len, sum_by}
use Rattle.xb_model.specs.declared.key.Tone.{Tone as Pair}
use Rattle.xb_signal.specs.declared.segment.Segment.{Segment}
use Rattle.xb_signal.specs.declared.segment.Sound.{Sound}
use Rattle.xb_signal.specs.declared.segment.Sound.TheVariants.{Written, Keyed}
use Rattle.xb_signal.specs.declared.setting.Setting.{Setting}
use Rattle.xb_signal.specs.declared.moment.Moment.{Moment}
use Rattle.xb_signal.specs.Moments.{moment_after, start}
use Rattle.xb_signal.specs.OneSample.{clean_sample, has_room, is_drawn, peak_of, sample_at}

abbrev pub silent : ℕ → Segment
silent ms = record { sound = Written []; ms = ms }

abbrev pub pair_segment : Pair → ℕ → Segment
pair_segment pair ms = record { sound = Keyed pair; ms = ms }

-- all frequencies of a segment begin at 0, and are not broken until they end; what is added goes on from a moment
abbrev pub segment_sound : Setting → Moment → Segment → List ℤ
segment_sound setting moment segment =
    map (λ n. sample_at setting moment segment.sound n) (range_with_len 0 (segment.ms * 8))

-- one segment after the other, each from the moment at which the one before it has ended
abbrev pub signal_from : Setting → Moment → List Segment → List ℤ
signal_from setting moment [] = []
signal_from setting moment (segment ∷ later) =
    segment_sound setting moment segment ++ signal_from setting (moment_after moment (segment.ms * 8)) later

abbrev pub signal_of : Setting → List Segment → List ℤ
signal_of setting segments = signal_from setting (start setting.seed) segments

-- how many samples segments have
abbrev pub samples_in : List Segment → ℕ
samples_in segments = sum_by (λ (segment : Segment). segment.ms * 8) segments

-- whether each sample has 16 bits before it is cut, whatever is added
abbrev pub samples_fit : Setting → Sound → ℕ → Bool
samples_fit setting sound ms =
    list_all (λ n. has_room (peak_of setting) (clean_sample setting 0 sound n)) (range_with_len 0 (ms * 8))

-- where the two tones of a key begin at places that are drawn, they may be greatest at once
abbrev pub sound_fits : Setting → Sound → ℕ → Bool
sound_fits setting sound ms =
    if is_drawn setting sound then has_room (peak_of setting) (pos (setting.low + setting.high))
    else samples_fit setting sound ms

abbrev pub all_fit : Setting → List Segment → Bool
all_fit setting segments = list_all (λ (segment : Segment). sound_fits setting segment.sound segment.ms) segments
