-- The text of each fault.
use Rattle.std.specs.Prelude.{ℕ, ◌++◌, List, codes, decimal}
use Rattle.xb_riff.specs.declared.head.HeadFault.{HeadFault}
use Rattle.xb_riff.specs.declared.head.HeadFault.TheVariants as head

-- of the head of a WAV file
abbrev pub head_text : HeadFault → List ℕ
head_text head.NotWav = codes "its first 12 bytes are not those of a WAV file"
head_text head.NoFormat = codes "no chunk \"fmt \" says how the samples are written"
head_text (head.Coding format bits) =
    codes "the chunk \"fmt \" has format " ++ decimal format ++ codes " of " ++ decimal bits
    ++ codes " bits, and not 1 of 8, 16, 24 or 32, 3 of 32, or 6 or 7 of 8: sox IN.wav -e signed -b 16 OUT.wav"
head_text (head.Channels channels) =
    codes "the chunk \"fmt \" has " ++ decimal channels
    ++ codes " channels, and not 1 to 8: sox IN.wav OUT.wav remix 1"
head_text (head.Block counted had) =
    codes "the chunk \"fmt \" counts " ++ decimal counted
    ++ codes " bytes for the samples of all channels, which have " ++ decimal had
head_text head.NoData = codes "no chunk \"data\" has samples"
