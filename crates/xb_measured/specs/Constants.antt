-- The numbers of System R1, each as it is.
use Rattle.std.specs.Prelude.{◌≡◌}
use Rattle.xb_measured.specs.declared.levels.TheConstants.{ZERO_DBM0}
use Rattle.xb_measured.specs.declared.verdicts.TheConstants.{KEY_MS, KP_MS, LEVEL_BELOW, MOST_OFF_HZ, MOST_OFF_MS, MOST_OFF_PER_MILLE, MOST_OFF_TENTHS, MOST_SKEW_TENTHS}

-- a definition that cites a constant means this number
pub record AreConstants : Type 0 where
  pub zero_dbm0 : ZERO_DBM0 ≡ 872
  pub kp_ms : KP_MS ≡ 100
  pub key_ms : KEY_MS ≡ 68
  pub most_off_ms : MOST_OFF_MS ≡ 14
  pub level_below : LEVEL_BELOW ≡ 70
  pub most_off_per_mille : MOST_OFF_PER_MILLE ≡ 15
  pub most_off_hz : MOST_OFF_HZ ≡ 2
  pub most_off_tenths : MOST_OFF_TENTHS ≡ 12
  pub most_skew_tenths : MOST_SKEW_TENTHS ≡ 30
