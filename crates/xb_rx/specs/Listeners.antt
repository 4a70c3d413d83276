-- What is heard of a sound, and what is told of one without a key, or without a KP.
use Rattle.std.specs.Prelude.{◌≡◌, ◌||◌, ◌-◌, ◌^◌, List, [], ◌∷◌, ◌++◌, ℕ, ℤ, Bool, true, false, Option, None, Some, if◌then◌else◌, is_some, min}
use Rattle.std.specs.List.{list_any}
use Rattle.xb_measured.specs.ButtonBlocks.{HasTaken, digit_blocks}
use Rattle.xb_measured.specs.ButtonLines.{buttons_line}
use Rattle.xb_measured.specs.declared.heard.Heard.{Heard}
use Rattle.xb_measured.specs.Receivers.{HasReceived, keys_of_sound}
use Rattle.xb_measured.specs.Meters.{metered, quiet_line}
use Rattle.xb_measured.specs.Keyings.{is_kp}
use Rattle.xb_rx.specs.declared.listener.Listener.{Listener}

-- whether there is a key
abbrev pub is_keyed : List Heard → Bool
is_keyed [] = false
is_keyed (key ∷ keys) = true

abbrev pub is_keyed_with : Bool → Option Heard → Bool
is_keyed_with before key = before || is_some key

-- whether there is a KP
abbrev pub has_kp : List Heard → Bool
has_kp keys = list_any is_kp keys

abbrev pub has_kp_with : Bool → Option Heard → Bool
has_kp_with before None = before
has_kp_with before (Some key) = before || is_kp key

-- these are the samples that were taken so far, and the keys that ended; blocks count only as long as there is no KP
pub record HasListened (listener : Listener) (samples : List ℤ) (keys : List Heard) : Type 0 where
  pub received : HasReceived listener.receiver samples keys
  pub metered : listener.meter ≡ metered samples
  pub keyed : listener.is_keyed ≡ is_keyed keys
  pub kp : listener.has_kp ≡ has_kp keys
  pub pressed : has_kp keys ≡ false → HasTaken listener.buttons samples

-- how loud samples are, if no key is heard of them
abbrev pub loudness_text : List ℤ → List Heard → List ℕ
loudness_text samples keys = if is_keyed keys then [] else quiet_line (metered samples)

-- for how long digits of a push-button telephone sound in samples, if they do, and no KP is heard
abbrev pub buttons_text : List ℤ → List Heard → List ℕ
buttons_text samples keys = if has_kp keys then [] else buttons_line (min (digit_blocks samples) (2 ^ 64 - 1))

-- what is told of samples of which these keys are heard
abbrev pub quiet_text : List ℤ → List Heard → List ℕ
quiet_text samples keys = loudness_text samples keys ++ buttons_text samples keys

-- what is told of a sound
abbrev pub quiet_of : List ℤ → List ℕ
quiet_of samples = quiet_text samples (keys_of_sound samples)
