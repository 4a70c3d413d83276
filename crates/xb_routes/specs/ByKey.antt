-- The limits of a text, said of each of their keys by itself.
use Rattle.std.specs.Prelude.{◌≡◌, ◌≢◌, ◌⊎◌, ℕ, ◌<◌, ◌≤◌, pos, codes, Option, Some, None}
use Rattle.toml.specs.Data.{Data, Members, as_integer, as_table, get_member}
use Rattle.xb_model.specs.declared.limits.Limits.{Limits}
use Rattle.xb_model.specs.LawfulLimits.{IsLimit, standard_limits}
use Rattle.xb_routes.specs.declared.fault.LimitFault.{LimitFault}
use Rattle.xb_routes.specs.declared.fault.LimitFault.TheVariants as broken

-- a limit is the whole number at its key, in range; or the standard one, where the key is missing
abbrev pub IsLimitAt : Option Data → ℕ → ℕ → Type 0
IsLimitAt None standard limit = limit ≡ standard
IsLimitAt (Some value) standard limit = (as_integer value ≡ Some (pos limit)) × IsLimit limit

-- a key is there, and holds no whole number in range
abbrev pub IsWrong : Option Data → Type 0
IsWrong None = ⊥
IsWrong (Some value) = (n : ℕ) → IsLimit n → as_integer value ≢ Some (pos n)

-- each limit is that of its key
pub record AreLimitsOf (keys : Members) (limits : Limits) : Type 0 where
  pub pulse_min : IsLimitAt (get_member (codes "pulse_min") keys) standard_limits.pulse_min limits.pulse_min
  pub pulse_max : IsLimitAt (get_member (codes "pulse_max") keys) standard_limits.pulse_max limits.pulse_max
  pub make_min : IsLimitAt (get_member (codes "make_min") keys) standard_limits.make_min limits.make_min
  pub pause : IsLimitAt (get_member (codes "pause") keys) standard_limits.pause limits.pause
  pub release : IsLimitAt (get_member (codes "release") keys) standard_limits.release limits.release
  pub timeout : IsLimitAt (get_member (codes "timeout") keys) standard_limits.timeout limits.timeout

-- the limits stand in their order
pub record StandInOrder (limits : Limits) : Type 0 where
  pub pulses_first : limits.pulse_min ≤ limits.pulse_max
  pub pulses_under : limits.pulse_max < limits.release
  pub makes_under : limits.make_min ≤ limits.pause
  pub pause_under : limits.pause < limits.timeout

-- this holds, and is the fault; or it does not, and a later one is
abbrev pub FirstOf : LimitFault → LimitFault → Type 0 → Type 0 → Type 0
FirstOf f first holds later = (holds × (f ≡ first)) ⊎ (¬ holds × later)

-- why limits that are each in range are refused
abbrev pub IsFaultOfOrder : Limits → LimitFault → Type 0
IsFaultOfOrder limits f =
    FirstOf f broken.PulseMinOverPulseMax (limits.pulse_max < limits.pulse_min) (
    FirstOf f broken.PulseMaxNotUnderRelease (limits.release ≤ limits.pulse_max) (
    FirstOf f broken.MakeMinOverPause (limits.pause < limits.make_min) (
    (limits.timeout ≤ limits.pause) × (f ≡ broken.PauseNotUnderTimeout))))

-- why a table with these keys is refused: by the first of the six keys that is wrong, or else by the
-- order of the limits
abbrev pub IsFaultOfKeys : Members → LimitFault → Type 0
IsFaultOfKeys keys f =
    FirstOf f broken.PulseMin (IsWrong (get_member (codes "pulse_min") keys)) (
    FirstOf f broken.PulseMax (IsWrong (get_member (codes "pulse_max") keys)) (
    FirstOf f broken.MakeMin (IsWrong (get_member (codes "make_min") keys)) (
    FirstOf f broken.Pause (IsWrong (get_member (codes "pause") keys)) (
    FirstOf f broken.Release (IsWrong (get_member (codes "release") keys)) (
    FirstOf f broken.Timeout (IsWrong (get_member (codes "timeout") keys)) (
    (limits : Limits) × AreLimitsOf keys limits × IsFaultOfOrder limits f))))))

-- the limits at the key `limits`: the standard ones where it is missing; else it holds a table, and the
-- limits are those of its keys and stand in their order
abbrev pub AreLimitsAt : Option Data → Limits → Type 0
AreLimitsAt None limits = limits ≡ standard_limits
AreLimitsAt (Some value) limits =
    (keys : Members) × (as_table value ≡ Some keys) × AreLimitsOf keys limits × StandInOrder limits

-- why the limits at the key are refused: it holds no table, or else by the keys of the table
abbrev pub IsFaultOfLimits : Option Data → LimitFault → Type 0
IsFaultOfLimits None f = ⊥
IsFaultOfLimits (Some value) f =
    ((as_table value ≡ None) × (f ≡ broken.NotTable))
    ⊎ ((keys : Members) × (as_table value ≡ Some keys) × IsFaultOfKeys keys f)
