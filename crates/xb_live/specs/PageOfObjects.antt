-- The page's line of an entry, made of the entry's object alone.
use Rattle.std.specs.Prelude.{◌≡◌, ◌-◌, ℕ, List, [], ◌∷◌, ◌++◌, codes, decimal, slice_index_or, bytes_eq, if◌then◌else◌, Option, Some, None}
use Rattle.std.specs.List.{AllByRecursion, flat_map}
use Rattle.serde_json.specs.Data.{Data, Items, array, boolean, item, no_items, null, number, object, string, unsigned}
use Rattle.serde_json.specs.Find.{get}
use Rattle.xb_model.specs.declared.key.Key.{Key}
use Rattle.xb_model.specs.declared.key.Key.TheVariants.{Digit, Kp, St}
use Rattle.xb_model.specs.MfPairs.{mf_pair}
use Rattle.xb_model.specs.Page.{entry_head, entry_text, four_digits, pair_text, zero_byte}
use Rattle.xb_model.specs.Rows.{LoopRow}
use Rattle.xb_routes.specs.Table.{Table}
use Rattle.xb_live.specs.Objects.{timed_object}
use Rattle.xb_live.specs.TimedEntries.{TimedEntry, told_of_rows}

-- the count that a value is
abbrev pub count_in : Option Data → ℕ
count_in None = 0
count_in (Some (number (unsigned n))) = n
count_in (Some other) = 0

-- the text that it is
abbrev pub text_in : Data → List ℕ
text_in null = []
text_in (boolean b) = []
text_in (number n) = []
text_in (string text) = text
text_in (array values) = []
text_in (object fields) = []

abbrev pub text_at : Option Data → List ℕ
text_at None = []
text_at (Some value) = text_in value

-- the texts that its items are
abbrev pub texts_of : Items → List (List ℕ)
texts_of no_items = []
texts_of (item value values) = text_in value ∷ texts_of values

abbrev pub texts_at : Option Data → List (List ℕ)
texts_at None = []
texts_at (Some (array values)) = texts_of values
texts_at (Some other) = []

-- the key of this name
abbrev pub key_named : List ℕ → Key
key_named name =
    if bytes_eq name (codes "KP") then Kp
    else (if bytes_eq name (codes "ST") then St else Digit (slice_index_or name 0 0 - zero_byte))

-- a key with its tones, after a blank
abbrev pub tone_text : List ℕ → List ℕ
tone_text name = codes " " ++ name ++ codes ":" ++ pair_text (mf_pair (key_named name))

-- the page's line of an entry that is keyed, and of one that is refused, after its line and number
abbrev pub keyed_line : List ℕ → Data → List ℕ
keyed_line head value =
    head ++ codes " KEYED"
    ++ (codes " " ++ four_digits (count_in (get (codes "trunk") value))
    ++ flat_map tone_text (texts_at (get (codes "keys") value)))
    ++ codes "\n"

abbrev pub refused_line : List ℕ → Data → List ℕ
refused_line head value =
    head ++ codes " REFUSED " ++ text_at (get (codes "reason") value) ++ codes " "
    ++ decimal (count_in (get (codes "heard") value)) ++ codes "\n"

-- the page's line: the line, the number, the outcome; the trunk group and the keys with their tones, or the reason and
-- the count
abbrev pub page_line_of : Data → List ℕ
page_line_of value =
    let head = entry_head (count_in (get (codes "line") value)) (count_in (get (codes "entry") value)) in
    if bytes_eq (text_at (get (codes "outcome") value)) (codes "KEYED") then keyed_line head value
    else refused_line head value

-- the page's line of each entry that rows complete is made of its object alone, with its times of day or without them
abbrev pub ObjectsAreLines : Table → List LoopRow → Type 0
ObjectsAreLines table rows = (from till : Option (List ℕ)) →
    AllByRecursion
    (λ (told : TimedEntry). page_line_of (timed_object from till told) ≡ entry_text told.line told.number told.marks)
    (told_of_rows table rows)
