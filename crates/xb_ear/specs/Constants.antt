-- The numbers of the receiver, each as it is.
use Rattle.std.specs.Prelude.{◌≡◌}
use Rattle.xb_ear.specs.declared.hearing.TheConstants.{GAP_WINDOWS, KEY_WINDOWS, KP_WINDOWS, PART_WINDOWS}
use Rattle.xb_ear.specs.declared.sight.TheConstants.{CLEAR, LEAST_LEVEL, SHARE, SHARE_OF, STEADY, TWIST}
use Rattle.xb_ear.specs.declared.hum.TheConstants.{STEADY_WINDOWS}
use Rattle.xb_ear.specs.declared.echo_tails.TheConstants.{TAIL_OTHER, TAIL_ROW, TAIL_WEAKER, TAIL_WINDOWS}

-- a definition that cites a constant means this number
pub record AreConstants : Type 0 where
  pub gap_windows : GAP_WINDOWS ≡ 8
  pub part_windows : PART_WINDOWS ≡ 5
  pub key_windows : KEY_WINDOWS ≡ 8
  pub kp_windows : KP_WINDOWS ≡ 18
  pub least_level : LEAST_LEVEL ≡ 250000
  pub twist : TWIST ≡ 16
  pub clear : CLEAR ≡ 2
  pub share : SHARE ≡ 3
  pub share_of : SHARE_OF ≡ 5
  pub steady : STEADY ≡ 20
  pub steady_windows : STEADY_WINDOWS ≡ 32768
  pub tail_windows : TAIL_WINDOWS ≡ 64
  pub tail_row : TAIL_ROW ≡ 6
  pub tail_weaker : TAIL_WEAKER ≡ 3
  pub tail_other : TAIL_OTHER ≡ 2
