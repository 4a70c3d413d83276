-- The JSON tokens of an event's object, as they are written.
use Rattle.std.specs.Prelude.{ℕ, List, [], ◌∷◌, codes, decimal, Option, Some, None}
use Rattle.json.specs.Token.{Token, end_object, key, number, string}
use Rattle.json.specs.Tree.{json_tokens}
use Rattle.serde_json.specs.Data.{Data}
use Rattle.serde_json.specs.Written.{outline}
use Rattle.xb_live.specs.EventObjects.{digit_value}
use Rattle.xb_clock.specs.Objects.{with_time}

abbrev pub tokens_of : Data → List Token
tokens_of value = json_tokens (outline value)

-- those of an object that also has the time of the event
abbrev pub tokens_at : Option (List ℕ) → Data → List Token
tokens_at time value = tokens_of (with_time (codes "at") time value)

-- or none, where there is no object
abbrev pub tokens_in : Option (List ℕ) → Option Data → List Token
tokens_in time None = []
tokens_in time (Some value) = tokens_at time value

-- the members that say when the event is
abbrev pub time_tokens : Option (List ℕ) → ℕ → List Token
time_tokens None at = key (codes "at_ms") ∷ number (decimal at) ∷ []
time_tokens (Some text) at =
    key (codes "at") ∷ string text ∷ key (codes "at_ms") ∷ number (decimal at) ∷ []

-- those that say what is dialled so far, and the digit
abbrev pub dialled_tokens : List ℕ → Option ℕ → List Token
dialled_tokens dialled digit =
    key (codes "dialled") ∷ string dialled ∷ key (codes "digit") ∷ tokens_of (digit_value digit)

-- those that say what it is and on which line, up to the object's end
abbrev pub name_tokens : List ℕ → ℕ → List Token
name_tokens name line =
    key (codes "event") ∷ string name ∷ key (codes "line") ∷ number (decimal line) ∷ end_object ∷ []
