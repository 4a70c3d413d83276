-- The text of each fault.
use Rattle.std.specs.Prelude.{ℕ, List, codes}
use Rattle.xb_sound.specs.declared.cadence.CadenceFault.{CadenceFault}
use Rattle.xb_sound.specs.declared.cadence.CadenceFault.TheVariants as cadence

-- of a cadence
abbrev pub cadence_text : CadenceFault → List ℕ
cadence_text cadence.Lead = codes "the silence before KP is too long"
cadence_text cadence.Kp = codes "the tone of KP has 0 ms or is too long"
cadence_text cadence.Key = codes "the tone of a digit has 0 ms or is too long"
cadence_text cadence.Gap = codes "the silence after a tone is too long"
