-- What is written of segments.
use Rattle.std.specs.Prelude.{ℕ, ◌+◌, ◌*◌, List, [], ◌++◌, Bool, if◌then◌else◌}
use Rattle.xb_signal.specs.declared.form.Form.{Form}
use Rattle.xb_signal.specs.declared.segment.Segment.{Segment}
use Rattle.xb_signal.specs.declared.setting.Setting.{Setting}
use Rattle.xb_signal.specs.Forms.{head_bytes, head_of_form, sample_bytes, samples_coded}
use Rattle.xb_signal.specs.Segments.{samples_in, signal_of}

-- before the samples stands the head of a WAV file, or nothing
abbrev pub head_before : Form → Bool → List Segment → List ℕ
head_before form raw segments = if raw then [] else head_of_form form (samples_in segments)

-- the samples alone, or a WAV file of them; 8 samples in a ms have an even number of bytes, so none is added
abbrev pub bytes_of : Setting → Bool → List Segment → List ℕ
bytes_of setting raw segments =
    head_before setting.form raw segments ++ samples_coded setting.form (signal_of setting segments)

-- how many bytes the file has
abbrev pub file_length : Form → List Segment → ℕ
file_length form segments = sample_bytes form * samples_in segments + head_bytes form
