-- A WAV file: PCM of 16 bits, one channel, 8,000 samples a second (RIFF, WAVE).
use Rattle.std.specs.Prelude.{ℕ, ◌+◌, ◌*◌, List, ◌++◌, codes, length, ℤ}
use Rattle.std.specs.Int.{cast_unsigned, to_le_bytes, w16, w32}
use Rattle.std.specs.List.{flat_map}

-- a number of two bytes and one of four, the low byte first
abbrev pub two_bytes : ℕ → List ℕ
two_bytes n = to_le_bytes w16 n

abbrev pub four_bytes : ℕ → List ℕ
four_bytes n = to_le_bytes w32 n

-- a sample of two bytes; one below zero counts down from 2^16
abbrev pub sample_bytes : ℤ → List ℕ
sample_bytes sample = two_bytes (cast_unsigned w16 sample)

-- the chunk of the format: its length, PCM, one channel, samples and bytes a second, bytes and bits
-- of a sample
abbrev pub format_chunk : List ℕ
format_chunk =
    codes "fmt " ++ four_bytes 16 ++ two_bytes 1 ++ two_bytes 1 ++ four_bytes 8000 ++ four_bytes 16000
    ++ two_bytes 2 ++ two_bytes 16

-- what stands before n bytes of samples; each length counts the bytes that come after it
abbrev pub header_of : ℕ → List ℕ
header_of n =
    codes "RIFF" ++ four_bytes (n + 36) ++ codes "WAVE" ++ format_chunk ++ codes "data" ++ four_bytes n

-- the bytes of samples
abbrev pub pcm_of : List ℤ → List ℕ
pcm_of samples = flat_map sample_bytes samples

-- how many bytes the file has
abbrev pub wav_length : List ℤ → ℕ
wav_length samples = 2 * length samples + 44

abbrev pub wav_of : List ℤ → List ℕ
wav_of samples = header_of (2 * length samples) ++ pcm_of samples
