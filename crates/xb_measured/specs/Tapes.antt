-- The last samples of a sound, by which keys are measured.
use Rattle.std.specs.Prelude.{◌≡◌, ℕ, ◌-◌, ◌*◌, ◌/◌, ◌^◌, List, drop, length, min, ℤ}
use Rattle.xb_ear.specs.declared.hearing.Heard.{Heard as HeardKey}
use Rattle.xb_measured.specs.declared.heard.Heard.{Heard}
use Rattle.xb_measured.specs.Blanks.{blank_in}
use Rattle.xb_measured.specs.Stretches.{heard_on}

-- how many windows lie before the last 1,400 samples of so many
abbrev pub windows_gone : ℕ → ℕ
windows_gone n = (n - 1400) / 20

-- the last samples, from a window on
abbrev pub kept_of : List ℤ → List ℤ
kept_of samples = drop (20 * windows_gone (length samples)) samples

-- counting stops at the greatest number that there is
abbrev pub gone_of : List ℤ → ℕ
gone_of samples = min (windows_gone (length samples)) (2 ^ 64 - 1)

pub record Taped : Type 0 where
  pub kept : List ℤ
  pub gone : ℕ

-- these are the samples so far
pub record IsTapeOf (tape : Taped) (samples : List ℤ) : Type 0 where
  pub kept : tape.kept ≡ kept_of samples
  pub gone : tape.gone ≡ gone_of samples

-- a key that is given after these samples, as it is measured on the last of them
abbrev pub heard_in : List ℤ → HeardKey → Heard
heard_in samples key = heard_on (kept_of samples) (gone_of samples) key (blank_in samples key)
