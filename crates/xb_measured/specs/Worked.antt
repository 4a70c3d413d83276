-- Levels, as worked by hand.
use Rattle.std.specs.Prelude.{◌≡◌, ℕ, ◌*◌, List, codes}
use Rattle.xb_measured.specs.declared.levels.TheConstants.{ZERO_DBM0}
use Rattle.xb_measured.specs.Levels.{tenths_of, tenths_text}

-- what is written of the level of an amplitude
abbrev pub dbm0_of : ℕ → List ℕ
dbm0_of amplitude = tenths_text (tenths_of (amplitude * amplitude)) ZERO_DBM0

-- the greatest sine has 3.14 dBm0, one of half the amplitude 6.02 dB less, and one of a tenth 20 dB less
pub record LevelsAreAsWorked : Type 0 where
  pub greatest : dbm0_of 32767 ≡ codes "3.1"
  pub half : dbm0_of 16384 ≡ codes "-2.9"
  pub tone : dbm0_of 10000 ≡ codes "-7.2"
  pub tenth : dbm0_of 1000 ≡ codes "-27.2"
  pub least : dbm0_of 500 ≡ codes "-33.2"
  pub none_of_two : tenths_text 800 800 ≡ codes "0.0"
