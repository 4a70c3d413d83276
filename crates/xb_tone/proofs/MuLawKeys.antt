-- Keys that are written by mu-law are heard.
use Rattle.std.proofs.Common.{List, ◌∷◌, true, map, subst, ℤ}
use Rattle.xb_model.specs.declared.mark.Mark.TheVariants.{Trunk}
use Rattle.xb_model.specs.Keyings.{tone}
use Rattle.xb_riff.specs.MuLawBytes.{AreCodedAs}
use Rattle.xb_ear.proofs.Coded.{mu_law_is_heard}
use Rattle.xb_signal.specs.Writings.{bytes_of}
use Rattle.xb_signal.proofs.HeardNames.{keys_sound_as_marks}
use Rattle.xb_signal.proofs.MuLawFiles.{mu_law_is_nearest}
use Rattle.xb_tone.specs.MuLawKeys.{MuLawKeysAreHeard, mu_law_setting}
use Rattle.xb_tone.specs.NoisyKeys.{keyed}
use Rattle.xb_tone.proofs.NoisyKeys.{are-keyed}

pub mu_law_keys_are_heard : MuLawKeysAreHeard
mu_law_keys_are_heard cadence keys hearable all =
    let bytes = bytes_of mu_law_setting true (keyed cadence keys) in
    mu_law_is_heard cadence (Trunk 0 ∷ map tone keys) bytes hearable (tt, are-keyed keys all)
    (subst (λ (samples : List ℤ). AreCodedAs samples bytes) (keys_sound_as_marks cadence 0 keys all)
    (mu_law_is_nearest mu_law_setting (keyed cadence keys)))
