-- How samples are written.
use Rattle.std.specs.Prelude.{ℕ, ◌+◌, ◌*◌, List, [], ◌∷◌, ◌++◌, codes, ℤ}
use Rattle.std.specs.List.{flat_map}
use Rattle.xb_riff.specs.MuLawBytes.{mu_law_byte}
use Rattle.xb_sound.specs.Wavs.{four_bytes, header_of, two_bytes}
use Rattle.xb_sound.specs.Wavs.{sample_bytes as linear_bytes}
use Rattle.xb_signal.specs.declared.form.Form.{Form}
use Rattle.xb_signal.specs.declared.form.Form.TheVariants.{Linear, MuLaw}

-- how many bytes a sample has
abbrev pub sample_bytes : Form → ℕ
sample_bytes Linear = 2
sample_bytes MuLaw = 1

-- and which
abbrev pub sample_coded : Form → ℤ → List ℕ
sample_coded Linear sample = linear_bytes sample
sample_coded MuLaw sample = mu_law_byte sample ∷ []

abbrev pub samples_coded : Form → List ℤ → List ℕ
samples_coded form samples = flat_map (sample_coded form) samples

-- bytes and bits of a sample of mu-law, and how many bytes the format has more, as one that is not PCM says: none
abbrev pub mu_law_width : List ℕ
mu_law_width = two_bytes 1 ++ two_bytes 8 ++ two_bytes 0

-- the chunk of the format mu-law: its length, the format, one channel, samples and bytes a second, and the width
abbrev pub mu_law_format : List ℕ
mu_law_format =
    codes "fmt " ++ four_bytes 18 ++ two_bytes 7 ++ two_bytes 1 ++ four_bytes 8000 ++ four_bytes 8000 ++ mu_law_width

-- such a format has a chunk with the number of samples
abbrev pub fact_chunk : ℕ → List ℕ
fact_chunk n = codes "fact" ++ four_bytes 4 ++ four_bytes n

-- what stands before n samples of mu-law; each length counts the bytes that come after it
abbrev pub mu_law_head : ℕ → List ℕ
mu_law_head n =
    codes "RIFF" ++ four_bytes (n + 50) ++ codes "WAVE" ++ mu_law_format ++ fact_chunk n ++ codes "data" ++ four_bytes n

-- what stands before n samples, and how many bytes that are
abbrev pub head_of_form : Form → ℕ → List ℕ
head_of_form Linear n = header_of (2 * n)
head_of_form MuLaw n = mu_law_head n

abbrev pub head_bytes : Form → ℕ
head_bytes Linear = 44
head_bytes MuLaw = 58
