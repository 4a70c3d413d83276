-- What the far end of a trunk hears of the numbers that a line dials.
use Rattle.std.specs.Prelude.{◌≡◌, ℕ, List, [], ◌∷◌, ◌++◌, map, ℤ}
use Rattle.std.specs.List.{AllByRecursion, flat_map}
use Rattle.xb_model.specs.declared.key.Key.{Key}
use Rattle.xb_model.specs.declared.key.Key.TheVariants.{Digit, Kp, St}
use Rattle.xb_model.specs.declared.mark.Mark.{Mark}
use Rattle.xb_model.specs.declared.mark.Mark.TheVariants.{Trunk, Tone, Refused}
use Rattle.xb_model.specs.declared.order.Order.{Order}
use Rattle.xb_model.specs.declared.order.Order.TheVariants as orders
use Rattle.xb_model.specs.Routing.{CodedRoute, routed}
use Rattle.xb_model.specs.Tapes.{joined_tape}
use Rattle.xb_routes.specs.Table.{Table}
use Rattle.xb_calls.specs.declared.order.RowOrder.TheVariants.{InTurn}
use Rattle.xb_calls.specs.declared.speed.Speed.{Speed}
use Rattle.xb_calls.specs.Calls.{DialledCall}
use Rattle.xb_calls.specs.Dialling.{dialled}
use Rattle.xb_sound.specs.declared.cadence.Cadence.{Cadence}
use Rattle.xb_sound.specs.HeardKeys.{IsKey, keys_heard}
use Rattle.xb_sound.specs.Sounds.{sound_of}

-- the keys of an order: KP, its digits, ST; of a refusal none
abbrev pub keys_of_order : Order → List Key
keys_of_order (orders.Key trunk digits) = Kp ∷ (map (λ d. Digit d) digits ++ St ∷ [])
keys_of_order (orders.Refused reason heard) = []

-- of numbers the far end hears just the digits that the route of each one sends, between KP and ST
abbrev pub FarEndHears : List CodedRoute → List (List ℕ) → List ℤ → Type 0
FarEndHears routes numbers sound =
    keys_heard sound ≡ flat_map (λ number. keys_of_order (routed routes number)) numbers

-- the marks that a table has for a line, where calls are dialled on all lines in turn
abbrev pub marks_of_calls : Table → Speed → List DialledCall → ℕ → List Mark
marks_of_calls table speed calls line =
    joined_tape table.plan table.limits table.routes line (dialled InTurn speed calls)

-- their sound by a cadence
abbrev pub sound_of_line : Table → Speed → List DialledCall → ℕ → Cadence → List ℤ
sound_of_line table speed calls line cadence = sound_of cadence (marks_of_calls table speed calls line)

-- the digit of a key is a digit
abbrev pub HasDigit : Mark → Type 0
HasDigit (Trunk t) = Unit {0}
HasDigit (Tone key pair) = IsKey key
HasDigit (Refused reason heard) = Unit {0}

abbrev pub HaveDigits : List Mark → Type 0
HaveDigits marks = AllByRecursion HasDigit marks
