-- Worked sounds and files, sample by sample and byte by byte.
use Rattle.std.specs.Prelude.{◌≡◌, List, [], ◌∷◌, ◌++◌, codes, ℤ, pos, negsuc}
use Rattle.xb_model.specs.declared.key.Key.TheVariants.{Kp, St}
use Rattle.xb_model.specs.declared.mark.Mark.TheVariants.{Trunk}
use Rattle.xb_model.specs.Keyings.{tone}
use Rattle.xb_model.specs.MfPairs.{mf_pair, pair}
use Rattle.xb_sound.specs.declared.cadence.Cadence.{Cadence}
use Rattle.xb_sound.specs.Sounds.{sound_of, tone_sound}
use Rattle.xb_sound.specs.Wavs.{wav_of}

-- the first ms of 1,000 and 2,000 Hz, and of KP
pub record FirstSamples : Type 0 where
  pub whole : tone_sound (pair 1000 2000) 1
      ≡ pos 0 ∷ pos 17071 ∷ pos 10000 ∷ negsuc 2928 ∷ pos 0 ∷ pos 2929 ∷ negsuc 9999 ∷ negsuc 17070 ∷ []
  pub kp : tone_sound (mf_pair Kp) 1
      ≡ pos 0 ∷ pos 17328 ∷ pos 14417 ∷ negsuc 2378 ∷ negsuc 11179 ∷ negsuc 5411 ∷ pos 967 ∷ negsuc 1548 ∷ []

-- a lead of 1 ms, a tone of 1 ms and a gap of 1 ms
abbrev pub short : Cadence
short = record { lead_ms = 1; kp_ms = 1; key_ms = 1; gap_ms = 1 }

abbrev pub zeros : List ℤ
zeros = pos 0 ∷ pos 0 ∷ pos 0 ∷ pos 0 ∷ pos 0 ∷ pos 0 ∷ pos 0 ∷ pos 0 ∷ []

abbrev pub ShortKeying : Type 0
ShortKeying = sound_of short (Trunk 17 ∷ tone Kp ∷ tone St ∷ [])
    ≡ zeros ++ tone_sound (mf_pair Kp) 1 ++ zeros ++ tone_sound (mf_pair St) 1 ++ zeros

-- the file of the samples 1, -1, 32767 and -32768
abbrev pub ShortFile : Type 0
ShortFile = wav_of (pos 1 ∷ negsuc 0 ∷ pos 32767 ∷ negsuc 32767 ∷ [])
    ≡ codes "RIFF" ++ (44 ∷ 0 ∷ 0 ∷ 0 ∷ []) ++ codes "WAVEfmt "
    ++ (16 ∷ 0 ∷ 0 ∷ 0 ∷ 1 ∷ 0 ∷ 1 ∷ 0 ∷ 64 ∷ 31 ∷ 0 ∷ 0 ∷ 128 ∷ 62 ∷ 0 ∷ 0 ∷ 2 ∷ 0 ∷ 16 ∷ 0 ∷ [])
    ++ codes "data" ++ (8 ∷ 0 ∷ 0 ∷ 0 ∷ 1 ∷ 0 ∷ 255 ∷ 255 ∷ 255 ∷ 127 ∷ 0 ∷ 128 ∷ [])
