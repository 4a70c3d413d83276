-- What is heard of keys whose samples are written by mu-law.
use Rattle.std.specs.Prelude.{List, ◌∷◌, true, map}
use Rattle.std.specs.List.{AllByRecursion}
use Rattle.xb_model.specs.declared.key.Key.{Key as PageKey}
use Rattle.xb_model.specs.declared.mark.Mark.TheVariants.{Trunk}
use Rattle.xb_model.specs.Keyings.{tone}
use Rattle.xb_riff.specs.Codings.{mu_law_sample}
use Rattle.xb_sound.specs.declared.cadence.Cadence.{Cadence}
use Rattle.xb_sound.specs.HeardKeys.{IsKey}
use Rattle.xb_ear.specs.HeardKeys.{IsHearable, IsHeardAs}
use Rattle.xb_signal.specs.declared.form.Form.TheVariants.{MuLaw}
use Rattle.xb_signal.specs.declared.setting.Setting.{Setting}
use Rattle.xb_signal.specs.Settings.{standard_setting}
use Rattle.xb_signal.specs.Writings.{bytes_of}
use Rattle.xb_tone.specs.NoisyKeys.{keyed}

-- nothing is disturbed, and nothing is added
abbrev pub mu_law_setting : Setting
mu_law_setting = record standard_setting { form = MuLaw }

-- just the keys are heard of the samples that the bytes stand for
abbrev pub MuLawKeysAreHeard : Type 0
MuLawKeysAreHeard = (cadence : Cadence) (keys : List PageKey) → IsHearable cadence → AllByRecursion IsKey keys
    → IsHeardAs (map mu_law_sample (bytes_of mu_law_setting true (keyed cadence keys))) (Trunk 0 ∷ map tone keys)
