-- A keying that goes on, and what one key more makes of it.
use Rattle.std.specs.Prelude.{ℕ, ◌≡◌, ◌+◌, ◌≤◌, ◌&&◌, List, [], ◌∷◌, ◌++◌, length, true, if◌then◌else◌, Some, is_some, nat_le}
use Rattle.std.specs.List.{AllByRecursion}
use Rattle.xb_measured.specs.declared.heard.Heard.{Heard}
use Rattle.xb_measured.specs.declared.keys.TheConstants.{MOST_DIGITS}
use Rattle.xb_rx.specs.declared.begun.Step.{Step}
use Rattle.xb_rx.specs.declared.begun.Step.TheVariants as step
use Rattle.xb_measured.specs.Keyings.{digit_of, is_kp, is_st}

abbrev pub IsDigit : Heard → Type 0
IsDigit key = (d : ℕ) × (digit_of key ≡ Some d)

-- no key, or a KP and digits, which are not too many
abbrev pub IsBegun : List Heard → Type 0
IsBegun [] = Unit {0}
IsBegun (key ∷ digits) = (is_kp key ≡ true) × AllByRecursion IsDigit digits × (length digits ≤ MOST_DIGITS)

-- what is done with a key after these
abbrev pub step_of : List Heard → Heard → Step
step_of [] key = if is_kp key then step.Keeps else step.BreaksOff
step_of (kp ∷ digits) key =
    if is_st key then step.Completes
    else (if nat_le (length digits + 1) MOST_DIGITS && is_some (digit_of key) then step.Keeps else step.BreaksOff)

-- what then stands in no keying
abbrev pub broken : List Heard → Heard → List Heard
broken begun key = begun ++ (if is_kp key then [] else key ∷ [])

-- and what goes on
abbrev pub kept_after : Heard → List Heard
kept_after key = if is_kp key then key ∷ [] else []
