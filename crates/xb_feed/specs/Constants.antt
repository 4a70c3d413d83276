-- The numbers of the program, each as it is.
use Rattle.std.specs.Prelude.{◌≡◌}
use Rattle.xb_contact.specs.declared.ringer.TheConstants.{ANSWER_MS}
use Rattle.xb_feed.specs.declared.beginning.TheConstants.{MOST_BEGINNING_BYTES}
use Rattle.xb_feed.specs.declared.feed.TheConstants.{MOST_SHOWN_BYTES}
use Rattle.xb_feed.specs.declared.lines.TheConstants.{MOST_GAP_MS}
use Rattle.xb_feed.specs.declared.own.TheConstants.{LEAST_RINGING_SEIZE_MS, RINGING_SEIZE_MS, SEIZE_MS, SETTLE_MS}
use Rattle.xb_feed.specs.declared.words.TheConstants.{THRESHOLD_PERCENT}

-- a definition that cites a constant means this number
pub record AreConstants : Type 0 where
  pub settle_ms : SETTLE_MS ≡ 5
  pub seize_ms : SEIZE_MS ≡ 0
  pub ringing_seize_ms : RINGING_SEIZE_MS ≡ 150
  pub least_ringing_seize_ms : LEAST_RINGING_SEIZE_MS ≡ 68
  pub answer_ms : ANSWER_MS ≡ 4500
  pub threshold_percent : THRESHOLD_PERCENT ≡ 6
  pub most_beginning_bytes : MOST_BEGINNING_BYTES ≡ 131072
  pub most_shown_bytes : MOST_SHOWN_BYTES ≡ 40
  pub most_gap_ms : MOST_GAP_MS ≡ 8640000000
