-- The numbers of what is found, each as it is.
use Rattle.std.specs.Prelude.{◌≡◌}
use Rattle.xb_findings.specs.declared.records.TheConstants.{BOUNCE_MS}
use Rattle.xb_findings.specs.declared.tally.TheConstants.{KINDS, MOST_COUNTED, TOLD_OF_A_KIND}

-- a definition that cites a constant means this number
pub record AreConstants : Type 0 where
  pub told_of_a_kind : TOLD_OF_A_KIND ≡ 10
  pub most_counted : MOST_COUNTED ≡ 1_000_000_000
  pub kinds : KINDS ≡ 24
  pub bounce_ms : BOUNCE_MS ≡ 5
