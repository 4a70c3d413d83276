-- What is keyed is the page of what is heard.
use Rattle.std.specs.Prelude.{ℕ, ◌≡◌, ◌<◌, ◌≤◌, List, [], length, ℤ}
use Rattle.std.specs.List.{AllByRecursion, flat_map}
use Rattle.xb_model.specs.declared.digit.TheConstants.{DIGITS}
use Rattle.xb_model.specs.declared.mark.Mark.{Mark}
use Rattle.xb_model.specs.Keyings.{keying}
use Rattle.xb_sound.specs.declared.cadence.Cadence.{Cadence}
use Rattle.xb_ear.specs.Disturbed.{AreWithin}
use Rattle.xb_ear.specs.HeardKeys.{IsHearable, disturbable}
use Rattle.xb_measured.specs.Receivers.{keys_of_sound}
use Rattle.xb_measured.specs.declared.keys.TheConstants.{MOST_DIGITS}
use Rattle.xb_measured.specs.Keyings.{loose_keys}
use Rattle.xb_rx.specs.Pages.{page_after, page_of}

-- digits, not too many for a keying
pub record IsNumber (digits : List ℕ) : Type 0 where
  pub are_digits : AllByRecursion (λ d. d < DIGITS) digits
  pub few : length digits ≤ MOST_DIGITS

abbrev pub AreNumbers : List (List ℕ) → Type 0
AreNumbers numbers = AllByRecursion IsNumber numbers

-- the marks of their keyings, one after the other
abbrev pub marks_of_numbers : ℕ → List (List ℕ) → List Mark
marks_of_numbers trunk numbers = flat_map (λ digits. keying trunk digits) numbers

-- of the sound of keyings, by any cadence that can be heard and with any disturbance that is borne, the page has just
-- an entry for each, in order, and no key stands in no keying
pub record IsPaged (line trunk : ℕ) (numbers : List (List ℕ)) (samples : List ℤ) : Type 0 where
  pub page : page_of line trunk (keys_of_sound samples) ≡ page_after line trunk 0 numbers
  pub none_loose : loose_keys (keys_of_sound samples) ≡ []

abbrev pub KeyedIsPaged : Type 0
KeyedIsPaged = (cadence : Cadence) (keyed line trunk : ℕ) (numbers : List (List ℕ)) (samples : List ℤ)
    → IsHearable cadence → AreNumbers numbers
    → AreWithin (disturbable cadence (marks_of_numbers keyed numbers)) samples → IsPaged line trunk numbers samples
