-- What of a signal is in its file.
use Rattle.std.specs.Prelude.{◌≡◌, ℕ, ◌^◌, ◌<◌, List, false, true, length}
use Rattle.xb_riff.specs.declared.coding.Coding.TheVariants as coding
use Rattle.xb_riff.specs.declared.head.WavFormat.{WavFormat}
use Rattle.xb_riff.specs.Heads.{IsWav, length_of}
use Rattle.xb_riff.specs.MuLawBytes.{AreCodedAs}
use Rattle.xb_sound.specs.Wavs.{pcm_of, wav_of}
use Rattle.xb_signal.specs.declared.form.Form.TheVariants.{Linear, MuLaw}
use Rattle.xb_signal.specs.declared.segment.Segment.{Segment}
use Rattle.xb_signal.specs.declared.setting.Setting.{Setting}
use Rattle.xb_signal.specs.Forms.{samples_coded}
use Rattle.xb_signal.specs.Segments.{samples_in, signal_of}
use Rattle.xb_signal.specs.Writings.{bytes_of, file_length}

-- the WAV file of a signal is as long as is said beforehand
abbrev pub FilesAreAsLong : Type 0
FilesAreAsLong = (setting : Setting) (segments : List Segment)
    → length (bytes_of setting false segments) ≡ file_length setting.form segments

-- of samples of 16 bits it is the WAV file of a page's calls, and alone they are the same bytes
abbrev pub LinearFilesAreWavs : Type 0
LinearFilesAreWavs = (setting : Setting) (segments : List Segment) → setting.form ≡ Linear
    → (bytes_of setting false segments ≡ wav_of (signal_of setting segments))
    × (bytes_of setting true segments ≡ pcm_of (signal_of setting segments))

-- by mu-law each sample has its nearest byte
abbrev pub MuLawIsNearest : Type 0
MuLawIsNearest = (setting : Setting) (segments : List Segment)
    → AreCodedAs (signal_of setting segments) (samples_coded MuLaw (signal_of setting segments))

-- so many samples of mu-law, 8,000 a second, in one channel
abbrev pub mu_law_of : ℕ → WavFormat
mu_law_of n = record { coding = coding.MuLaw; channels = 1; rate = 8000; length = length_of n }

-- and a file of them is read as such: its samples are just these bytes
abbrev pub MuLawFilesAreRead : Type 0
MuLawFilesAreRead = (setting : Setting) (segments : List Segment) → setting.form ≡ MuLaw
    → file_length MuLaw segments < 2 ^ 32
    → IsWav (bytes_of setting false segments)
    (mu_law_of (samples_in segments), samples_coded MuLaw (signal_of setting segments))
