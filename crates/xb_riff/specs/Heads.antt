-- The head of a WAV file (RIFF, WAVE): a list of chunks, the last of which are the samples.
use Rattle.std.specs.Prelude.{ℕ, zero, suc, ◌≡◌, ◌+◌, ◌*◌, ◌%◌, ◌<◌, ◌≤◌, min, List, [], ◌∷◌, ◌++◌, Bool, Option, Some, None, Result, Ok, Err, IfSome, codes, drop, length, nat_eq, nat_lt, take, ◌==◌, ◌&&◌, if◌then◌else◌, option_map, slice_index_or}
use Rattle.std.specs.Int.{from_le_bytes, w16, w32}
use Rattle.std.specs.List.{ends_with, starts_with}
use Rattle.xb_riff.specs.declared.coding.Coding.{Coding}
use Rattle.xb_riff.specs.declared.coding.Coding.TheVariants as coding
use Rattle.xb_riff.specs.Codings.{width}
use Rattle.xb_riff.specs.declared.head.After.{After}
use Rattle.xb_riff.specs.declared.head.After.TheVariants as afters
use Rattle.xb_riff.specs.declared.head.HeadFault.{HeadFault}
use Rattle.xb_riff.specs.declared.head.HeadFault.TheVariants as fault
use Rattle.xb_riff.specs.declared.head.HeadPlace.{HeadPlace}
use Rattle.xb_riff.specs.declared.head.HeadPlace.TheVariants as places
use Rattle.xb_riff.specs.declared.head.WavFormat.{WavFormat}

-- a byte, 0 where none is; the numbers that two and four bytes write, the lowest one first
abbrev pub byte_at : List ℕ → ℕ → ℕ
byte_at bytes place = slice_index_or bytes place 0

abbrev pub short_at : List ℕ → ℕ → ℕ
short_at bytes place = from_le_bytes w16 (byte_at bytes place ∷ byte_at bytes (place + 1) ∷ [])

abbrev pub long_at : List ℕ → ℕ → ℕ
long_at bytes place =
    from_le_bytes w32
    (byte_at bytes place ∷ byte_at bytes (place + 1) ∷ byte_at bytes (place + 2) ∷ byte_at bytes (place + 3) ∷ [])

-- the number of a format; an extended one has it further on
abbrev pub kind_of : List ℕ → ℕ
kind_of chunk = if short_at chunk 0 == 65534 then short_at chunk 24 else short_at chunk 0

-- format 1 is PCM, 3 floats, 6 A-law, and 7 mu-law
abbrev pub codings : List (ℕ × ℕ × Coding)
codings =
    (1, 8, coding.Unsigned8) ∷ (1, 16, coding.Signed16) ∷ (1, 24, coding.Signed24) ∷ (1, 32, coding.Signed32)
    ∷ (3, 32, coding.Float32) ∷ (6, 8, coding.ALaw) ∷ (7, 8, coding.MuLaw) ∷ []

abbrev pub coding_in : List (ℕ × ℕ × Coding) → ℕ → ℕ → Option Coding
coding_in [] kind bits = None
coding_in ((k, b, how) ∷ rest) kind bits = if (kind == k) && (bits == b) then Some how else coding_in rest kind bits

abbrev pub coding_of : ℕ → ℕ → Option Coding
coding_of kind bits = coding_in codings kind bits

-- there are 1 to 8 channels, and so many bytes are counted for the samples of all as they have
abbrev pub counted_by : Coding → ℕ → ℕ → ℕ → Result WavFormat HeadFault
counted_by how channels rate block =
    if block == (channels * width how)
    then Ok (record { coding = how; channels = channels; rate = rate; length = None })
    else Err (fault.Block block (channels * width how))

abbrev pub format_by : Option Coding → ℕ → ℕ → ℕ → ℕ → ℕ → Result WavFormat HeadFault
format_by None kind bits channels rate block = Err (fault.Coding kind bits)
format_by (Some how) kind bits channels rate block =
    if nat_lt 0 channels && nat_lt channels 9 then counted_by how channels rate block
    else Err (fault.Channels channels)

-- what a chunk `fmt ` says: format, channels, samples a second, the bytes of a sample of each channel together, and the
-- bits of a sample
abbrev pub format_of : List ℕ → Result WavFormat HeadFault
format_of chunk =
    format_by (coding_of (kind_of chunk) (short_at chunk 14)) (kind_of chunk) (short_at chunk 14) (short_at chunk 2)
    (long_at chunk 4) (short_at chunk 12)

-- how many bytes the samples have: from 2,147,418,112 on it was not known when the head was written
abbrev pub length_of : ℕ → Option ℕ
length_of size = if nat_lt size 2147418112 then Some size else None

-- a chunk of an odd length has a byte more
abbrev pub padded : ℕ → ℕ
padded size = size + size % 2

-- the samples: how they are, and the bytes from there on
abbrev pub Samples : Type 0
Samples = WavFormat × List ℕ

-- what comes of bytes where this is known of the samples
abbrev pub Reads : Type 0
Reads = Option WavFormat → List ℕ → Result Samples HeadFault

-- the samples begin, of so many bytes
abbrev pub samples_by : Option WavFormat → ℕ → List ℕ → Result Samples HeadFault
samples_by None size rest = Err fault.NoFormat
samples_by (Some format) size rest = Ok (record format { length = length_of size }, rest)

-- a chunk `fmt ` of so many bytes, of which the first 26 say all; and what comes of the chunks after it
abbrev pub format_and : Reads → Result WavFormat HeadFault → List ℕ → Result Samples HeadFault
format_and next (Err f) rest = Err f
format_and next (Ok format) rest = next (Some format) rest

abbrev pub after_format : Reads → ℕ → List ℕ → Result Samples HeadFault
after_format next size rest =
    if nat_lt (length rest) (min size 26) then Err fault.NoData
    else format_and next (format_of (take (min size 26) rest)) (drop size rest)

-- what comes of a chunk whose name and length these are
abbrev pub after_chunk : Reads → Option WavFormat → List ℕ → List ℕ → Result Samples HeadFault
after_chunk next found chunk rest =
    if starts_with nat_eq chunk (codes "data") then samples_by found (long_at chunk 4) rest
    else (if starts_with nat_eq chunk (codes "fmt ")
    then (if nat_lt (long_at chunk 4) 16 then Err fault.NoFormat else after_format next (padded (long_at chunk 4)) rest)
    else next found (drop (padded (long_at chunk 4)) rest))

-- the samples begin in the first of n chunks that is `data`; each has a name of four bytes and a length in four
unfoldable pub samples_in : ℕ → Option WavFormat → List ℕ → Result Samples HeadFault
samples_in zero found bytes = Err fault.NoData
samples_in (suc n) found bytes =
    if nat_lt (length bytes) 8 then Err fault.NoData
    else after_chunk (λ known rest. samples_in n known rest) found (take 8 bytes) (drop 8 bytes)

-- there are no more chunks than bytes
unfoldable pub chunks_of : Reads
chunks_of found bytes = samples_in (length bytes) found bytes

-- a file begins with RIFF, a length and WAVE
abbrev pub is_riff : List ℕ → Bool
is_riff head = starts_with nat_eq head (codes "RIFF") && ends_with nat_eq head (codes "WAVE")

-- what the bytes of a file come to: its samples, or why there are none
abbrev pub head_of : List ℕ → Result Samples HeadFault
head_of bytes =
    if nat_lt (length bytes) 12 then Err fault.NotWav
    else (if is_riff (take 12 bytes) then chunks_of None (drop 12 bytes) else Err fault.NotWav)

abbrev pub IsWav : List ℕ → Samples → Type 0
IsWav bytes samples = head_of bytes ≡ Ok samples

-- a head that has been read up to a place: what is known of the samples, and the bytes of the part that has not ended
pub record HeadSoFar : Type 0 where
  pub place : HeadPlace
  pub found : Option WavFormat
  pub gathered : List ℕ

abbrev pub so_far : HeadPlace → Option WavFormat → List ℕ → HeadSoFar
so_far place found gathered = record { place = place; found = found; gathered = gathered }

-- what further bytes come to
abbrev pub rest_at : HeadPlace → Option WavFormat → List ℕ → List ℕ → Result Samples HeadFault
rest_at places.Beginning found gathered bytes = head_of (gathered ++ bytes)
rest_at places.Chunk found gathered bytes = chunks_of found (gathered ++ bytes)
rest_at (places.Format size) found gathered bytes = after_format chunks_of size (gathered ++ bytes)
rest_at (places.Passed left) found gathered bytes = chunks_of found (drop left bytes)

abbrev pub rest_of : HeadSoFar → List ℕ → Result Samples HeadFault
rest_of head bytes = rest_at head.place head.found head.gathered bytes

abbrev pub HeadBegins : HeadSoFar → List ℕ → Samples → Type 0
HeadBegins head bytes samples = rest_of head bytes ≡ Ok samples

-- nothing was read
abbrev pub IsNewHead : HeadSoFar → Type 0
IsNewHead head = head ≡ so_far places.Beginning None []

-- bytes were taken, of which so many belong to the head, and the others are samples
abbrev pub TakesHead : HeadSoFar → List ℕ → Option (WavFormat × ℕ) → HeadSoFar → Type 0
TakesHead old bytes None new = (rest : List ℕ) → rest_of old (bytes ++ rest) ≡ rest_of new rest
TakesHead old bytes (Some found) new =
    (rest : List ℕ) → rest_of old (bytes ++ rest) ≡ Ok (found.0, drop found.1 bytes ++ rest)

abbrev pub TakesByte : HeadSoFar → ℕ → Option WavFormat → HeadSoFar → Type 0
TakesByte old byte found new = TakesHead old (byte ∷ []) (option_map (λ format. (format, 1)) found) new

-- they were refused: whatever follows, this is the fault
abbrev pub RefusesHead : HeadSoFar → List ℕ → HeadFault → Type 0
RefusesHead old bytes f = (rest : List ℕ) → rest_of old (bytes ++ rest) ≡ Err f

-- a format has a channel, and no more than 8, and no length that says that it was not known
pub record IsFormat (format : WavFormat) : Type 0 where
  pub one_channel : 1 ≤ format.channels
  pub channels : format.channels ≤ 8
  pub length : IfSome format.length (λ size. size < 2147418112)

-- how many bytes a part has, of those that are gathered
abbrev pub part_length : HeadPlace → ℕ
part_length places.Beginning = 12
part_length places.Chunk = 8
part_length (places.Format size) = min size 26
part_length (places.Passed left) = 0

-- what is true of each place: a part that is gathered has not ended, and one that is passed over has some bytes left
abbrev pub IsPlace : HeadPlace → List ℕ → Type 0
IsPlace places.Beginning gathered = length gathered < 12
IsPlace places.Chunk gathered = length gathered < 8
IsPlace (places.Format size) gathered = (16 ≤ size) × (length gathered < min size 26)
IsPlace (places.Passed left) gathered = (1 ≤ left) × (gathered ≡ [])

pub record IsWithin (place : HeadPlace) (found : Option WavFormat) (gathered : List ℕ) : Type 0 where
  pub place_is : IsPlace place gathered
  pub format_is : IfSome found IsFormat

-- a part that is gathered
abbrev pub IsGathered : HeadPlace → Type 0
IsGathered places.Beginning = Unit {0}
IsGathered places.Chunk = Unit {0}
IsGathered (places.Format size) = 16 ≤ size
IsGathered (places.Passed left) = ⊥

-- so many bytes are passed over, where there are any
abbrev pub passed : ℕ → HeadPlace
passed left = if nat_lt 0 left then places.Passed left else places.Chunk

-- what comes after a part
abbrev pub after_says : Result After HeadFault → List ℕ → Result Samples HeadFault
after_says (Err f) rest = Err f
after_says (Ok (afters.Samples format)) rest = Ok (format, rest)
after_says (Ok (afters.Part found place)) rest = rest_at place found [] rest

abbrev pub FollowsPart : HeadPlace → Option WavFormat → List ℕ → Result After HeadFault → Type 0
FollowsPart place found part result = (rest : List ℕ) → rest_at place found part rest ≡ after_says result rest

abbrev pub IsAfter : After → Type 0
IsAfter (afters.Samples format) = IsFormat format
IsAfter (afters.Part found place) = IsWithin place found []
