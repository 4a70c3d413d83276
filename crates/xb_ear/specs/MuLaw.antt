-- Keyings that are sent as samples of eight bits, by mu-law (G.711).
use Rattle.std.specs.Prelude.{ℕ, List, map}
use Rattle.xb_model.specs.declared.mark.Mark.{Mark}
use Rattle.xb_riff.specs.Codings.{mu_law_sample}
use Rattle.xb_riff.specs.MuLawBytes.{AreCodedAs}
use Rattle.xb_sound.specs.declared.cadence.Cadence.{Cadence}
use Rattle.xb_sound.specs.HeardKeys.{AreKeyed}
use Rattle.xb_sound.specs.Sounds.{sound_of}
use Rattle.xb_ear.specs.HeardKeys.{IsHearable, IsHeardAs}

-- what is keyed is heard through mu-law, whatever codes it, as long as it takes the nearest byte
abbrev pub MuLawIsHeard : Type 0
MuLawIsHeard = (cadence : Cadence) (marks : List Mark) (bytes : List ℕ) → IsHearable cadence → AreKeyed marks
    → AreCodedAs (sound_of cadence marks) bytes → IsHeardAs (map mu_law_sample bytes) marks
