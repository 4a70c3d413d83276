-- How long the tones of a keying last, each in ms (standard times: Notes on Distance Dialing).
use Rattle.std.specs.Prelude.{ℕ, ◌<◌, ◌≤◌, Option, Some, None, min}
use Rattle.xb_model.specs.declared.key.Key.{Key}
use Rattle.xb_model.specs.declared.key.Key.TheVariants.{Digit, Kp, St}
use Rattle.xb_sound.specs.declared.cadence.Cadence.{Cadence}
use Rattle.xb_sound.specs.declared.cadence.CadenceFault.{CadenceFault}
use Rattle.xb_sound.specs.declared.cadence.CadenceFault.TheVariants as fault
use Rattle.xb_sound.specs.declared.cadence.TheConstants.{LONGEST_LEAD_MS, LONGEST_MS}

abbrev pub standard_cadence : Cadence
standard_cadence = record { lead_ms = 500; kp_ms = 100; key_ms = 68; gap_ms = 68 }

-- a time that is given, up to the longest that is told apart, or else that of the standard
abbrev pub chosen_ms : Option ℕ → ℕ → ℕ
chosen_ms None standard = standard
chosen_ms (Some ms) standard = min ms 65535

-- the standard cadence, with each time that is given in place of its own
abbrev pub chosen_cadence : Option ℕ → Option ℕ → Option ℕ → Option ℕ → Cadence
chosen_cadence lead kp key gap = record {
  lead_ms = chosen_ms lead standard_cadence.lead_ms;
  kp_ms = chosen_ms kp standard_cadence.kp_ms;
  key_ms = chosen_ms key standard_cadence.key_ms;
  gap_ms = chosen_ms gap standard_cadence.gap_ms;
}

-- how long the tone of a key lasts
abbrev pub tone_ms : Cadence → Key → ℕ
tone_ms cadence (Digit d) = cadence.key_ms
tone_ms cadence Kp = cadence.kp_ms
tone_ms cadence St = cadence.key_ms

-- a tone sounds at all, and not too long
abbrev pub IsToneTime : ℕ → Type 0
IsToneTime ms = (0 < ms) × (ms ≤ LONGEST_MS)

-- each time is in its range
pub record IsLawful (cadence : Cadence) : Type 0 where
  pub lead : cadence.lead_ms ≤ LONGEST_LEAD_MS
  pub kp : IsToneTime cadence.kp_ms
  pub key : IsToneTime cadence.key_ms
  pub gap : cadence.gap_ms ≤ LONGEST_MS

-- of lead, KP, digit and gap this is the first that is out of its range
abbrev pub IsFirstMisfit : Cadence → CadenceFault → Type 0
IsFirstMisfit cadence fault.Lead = ¬ (cadence.lead_ms ≤ LONGEST_LEAD_MS)
IsFirstMisfit cadence fault.Kp = (cadence.lead_ms ≤ LONGEST_LEAD_MS) × ¬ IsToneTime cadence.kp_ms
IsFirstMisfit cadence fault.Key =
    (cadence.lead_ms ≤ LONGEST_LEAD_MS) × IsToneTime cadence.kp_ms × ¬ IsToneTime cadence.key_ms
IsFirstMisfit cadence fault.Gap =
    (cadence.lead_ms ≤ LONGEST_LEAD_MS) × IsToneTime cadence.kp_ms × IsToneTime cadence.key_ms
    × ¬ (cadence.gap_ms ≤ LONGEST_MS)

-- each tone lasts 11 ms or more, with 10 ms of silence or more after it
pub record IsSetApart (cadence : Cadence) : Type 0 where
  pub kp : 11 ≤ cadence.kp_ms
  pub key : 11 ≤ cadence.key_ms
  pub gap : 10 ≤ cadence.gap_ms
