-- The register, key by key.
use Rattle.std.specs.Prelude.{◌≡◌, ℕ, suc, List, [], ◌∷◌, ◌++◌, fold, length, ◌&&◌, if◌then◌else◌, nat_le, nat_lt, Some, None}
use Rattle.std.specs.Option.{option_to_list}
use Rattle.xb_model.specs.declared.dialled.Dialled.{Dialled}
use Rattle.xb_model.specs.declared.dialled.Dialled.TheVariants.{Number, Refused}
use Rattle.xb_model.specs.declared.digits.TheConstants.{NUMBER_DIGITS}
use Rattle.xb_model.specs.declared.reason.Reason.{Reason}
use Rattle.xb_model.specs.declared.reason.Reason.TheVariants.{Mutilated, Unknown, Abandoned, TimedOut}
use Rattle.xb_model.specs.Image.{Machine, image_on}
use Rattle.xb_incoming.specs.declared.key.Symbol.{Symbol}
use Rattle.xb_incoming.specs.declared.key.Symbol.TheVariants.{Digit, Kp, St, Other}
use Rattle.xb_incoming.specs.declared.key.TimedKey.{TimedKey}
use Rattle.xb_incoming.specs.declared.key.TheConstants.{MOST_COUNT}
use Rattle.xb_incoming.specs.declared.phase.Keyed.{Keyed}
use Rattle.xb_incoming.specs.declared.phase.Phase.{Phase}
use Rattle.xb_incoming.specs.declared.phase.Phase.TheVariants.{Idle, Keying, Deaf}
use Rattle.xb_incoming.specs.declared.phase.Step.{Step}
use Rattle.xb_incoming.specs.declared.register.Register.{Register}
use Rattle.xb_incoming.specs.Attempts.{is_clear, times_out}

abbrev pub enter : Phase → Step
enter phase = record { outcome = None; phase = phase }

abbrev pub give : Dialled → Phase → Step
give outcome phase = record { outcome = Some outcome; phase = phase }

abbrev pub refuse : Reason → Keyed → Phase → Step
refuse reason keyed phase = give (Refused reason keyed.count) phase

abbrev pub one_more : ℕ → ℕ
one_more count = if nat_lt count MOST_COUNT then suc count else count

abbrev pub no_digits : Keyed
no_digits = record { first = []; count = 0 }

abbrev pub first_with : ℕ → List ℕ → List ℕ
first_with d first = if nat_lt (length first) NUMBER_DIGITS then first ++ d ∷ [] else first

abbrev pub with_digit : ℕ → Keyed → Keyed
with_digit d keyed = record { first = first_with d keyed.first; count = one_more keyed.count }

abbrev pub number_by : Keyed → Dialled
number_by keyed =
    if nat_le 1 keyed.count && nat_le keyed.count NUMBER_DIGITS then Number keyed.first
    else Refused Unknown keyed.count

-- a key that comes to a register without a keying
abbrev pub opened : Symbol → ℕ → Phase
opened (Digit d) end = Idle
opened Kp end = Keying no_digits end
opened St end = Idle
opened Other end = Idle

-- a key in a keying
abbrev pub listen : Keyed → Symbol → ℕ → Step
listen keyed (Digit d) end = enter (Keying (with_digit d keyed) end)
listen keyed Kp end = refuse Mutilated keyed (Deaf end)
listen keyed St end = give (number_by keyed) Idle
listen keyed Other end = refuse Mutilated keyed (Deaf end)

abbrev pub advance : ℕ → Phase → TimedKey → Step
advance limit Idle key = enter (opened key.what key.end_ms)
advance limit (Keying keyed last) key =
    if times_out limit last key.begin_ms then refuse TimedOut keyed (opened key.what key.end_ms)
    else listen keyed key.what key.end_ms
advance limit (Deaf last) key =
    if is_clear last key.begin_ms then enter (opened key.what key.end_ms) else enter (Deaf key.end_ms)

abbrev pub next : ℕ → Phase → TimedKey → Phase
next limit phase key = (advance limit phase key).phase

abbrev pub outs : ℕ → Phase → TimedKey → List Dialled
outs limit phase key = option_to_list (advance limit phase key).outcome

-- what the end of the keys tells
abbrev pub at_end : Phase → List Dialled
at_end Idle = []
at_end (Keying keyed last) = Refused Abandoned keyed.count ∷ []
at_end (Deaf last) = []

abbrev pub machine : ℕ → Machine TimedKey Dialled Phase
machine limit = record { start = Idle; next = next limit; outs = outs limit }

-- what is told of keys, before they have ended
abbrev pub told_by : ℕ → List TimedKey → List Dialled
told_by limit keys = image_on (machine limit) keys

abbrev pub phase_after : ℕ → List TimedKey → Phase
phase_after limit keys = fold (next limit) Idle keys

-- a register of this time-out has taken these keys, and told these outcomes
pub record HasTaken (limit : ℕ) (register : Register) (keys : List TimedKey) (told : List Dialled) : Type 0 where
  pub waits : register.timeout_ms ≡ limit
  pub stands : register.phase ≡ phase_after limit keys
  pub given : told ≡ told_by limit keys
