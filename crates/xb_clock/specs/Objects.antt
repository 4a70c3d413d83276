-- JSON objects that also have a time.
use Rattle.std.specs.Prelude.{ℕ, List, Option, Some, None}
use Rattle.serde_json.specs.Data.{Data, object, put, string}

-- an object that also has this text under a name
abbrev pub with_text : List ℕ → List ℕ → Data → Data
with_text name text (object members) = object (put name (string text) members)
with_text name text other = other

-- or this time, where there is one
abbrev pub with_time : List ℕ → Option (List ℕ) → Data → Data
with_time name None value = value
with_time name (Some text) value = with_text name text value
