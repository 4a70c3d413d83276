-- Rates as they are written, and the whole units of a sample, as sigrok counts times by them.
use Rattle.std.specs.Prelude.{◌≡◌, ℕ, Some, None, codes}
use Rattle.xb_csv.specs.declared.sample_periods.CutTimes.{CutTimes}
use Rattle.xb_csv.specs.Tables.{cut_times, rate_of}

pub record RatesAreRead : Type 0 where
  pub plain : rate_of (codes " 12500") ≡ Some 12500
  pub hertz : rate_of (codes " 999 Hz") ≡ Some 999
  pub kilohertz : rate_of (codes " 12.5 kHz") ≡ Some 12500
  pub megahertz : rate_of (codes " 1.5 MHz") ≡ Some 1500000
  pub gigahertz : rate_of (codes " 1.000000001 GHz") ≡ Some 1000000001
  pub half_a_hertz : rate_of (codes " 0.5 Hz") ≡ None
  pub part_of_a_hertz : rate_of (codes " 44.1005 kHz") ≡ None
  pub two_points : rate_of (codes " 1.5.5 MHz") ≡ None
  pub no_unit : rate_of (codes " 12.5 kilohertz") ≡ None

-- so many units a second, so many samples, and so many whole units of a sample
abbrev pub cut_to : ℕ → ℕ → ℕ → CutTimes
cut_to units rate period = record {
  units = units;
  rate = rate;
  period = period;
}

pub record PeriodsAreCut : Type 0 where
  pub at_12_kilohertz : cut_times 1000000 (Some 12000) ≡ Some (cut_to 1000000 12000 83)
  pub at_24_kilohertz : cut_times 1000000 (Some 24000) ≡ Some (cut_to 1000000 24000 41)
  pub at_48_kilohertz : cut_times 1000000 (Some 48000) ≡ Some (cut_to 1000000 48000 20)
  pub at_12_megahertz : cut_times 1000000000 (Some 12000000) ≡ Some (cut_to 1000000000 12000000 83)
  pub at_16_megahertz : cut_times 1000000000 (Some 16000000) ≡ Some (cut_to 1000000000 16000000 62)
  pub at_24_megahertz : cut_times 1000000000 (Some 24000000) ≡ Some (cut_to 1000000000 24000000 41)
  pub at_48_megahertz : cut_times 1000000000 (Some 48000000) ≡ Some (cut_to 1000000000 48000000 20)
  pub whole : cut_times 1000000 (Some 10000) ≡ None
  pub long_unit : cut_times 1000 (Some 12000) ≡ None
  pub no_rate : cut_times 1000000 None ≡ None
