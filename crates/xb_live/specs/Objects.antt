-- The JSON objects that are printed of an entry, of a mark, and of the totals.
use Rattle.std.specs.Prelude.{ℕ, List, [], ◌∷◌, ◌++◌, codes, Option, Some, None}
use Rattle.std.specs.List.{flat_map}
use Rattle.serde_json.specs.Data.{Data, array, member, no_members, number, object, string, unsigned}
use Rattle.serde_json.specs.View.{items_of}
use Rattle.serde_json.specs.Written.{compact_text}
use Rattle.xb_json.specs.Keys.{digits_text, keys_of}
use Rattle.xb_model.specs.declared.key.Key.{Key}
use Rattle.xb_model.specs.declared.key.Key.TheVariants as key
use Rattle.xb_model.specs.declared.mark.Mark.{Mark}
use Rattle.xb_model.specs.declared.mark.Mark.TheVariants as mark
use Rattle.xb_model.specs.declared.order.Order.{Order}
use Rattle.xb_model.specs.declared.order.Order.TheVariants as orders
use Rattle.xb_model.specs.declared.reason.Reason.{Reason}
use Rattle.xb_model.specs.Page.{key_text, last_refusal, reason_text}
use Rattle.xb_clock.specs.Objects.{with_time}
use Rattle.xb_live.specs.TimedEntries.{TimedEntry}

-- the digit of a key, and of a mark
abbrev pub key_digits : Key → List ℕ
key_digits (key.Digit digit) = digit ∷ []
key_digits key.Kp = []
key_digits key.St = []

abbrev pub mark_digits : Mark → List ℕ
mark_digits (mark.Trunk trunk) = []
mark_digits (mark.Tone k pair) = key_digits k
mark_digits (mark.Refused reason heard) = []

-- the digits that marks key
abbrev pub digits_in : List Mark → List ℕ
digits_in marks = flat_map mark_digits marks

-- the trunk group that marks begin with
abbrev pub trunk_in : List Mark → ℕ
trunk_in [] = 0
trunk_in (mark.Trunk trunk ∷ marks) = trunk
trunk_in (mark.Tone k pair ∷ marks) = 0
trunk_in (mark.Refused reason heard ∷ marks) = 0

abbrev pub order_by_refusal : List Mark → Option (Reason × ℕ) → Order
order_by_refusal marks None = orders.Key (trunk_in marks) (digits_in marks)
order_by_refusal marks (Some refusal) = orders.Refused refusal.0 refusal.1

-- the order whose marks these are
abbrev pub order_in : List Mark → Order
order_in marks = order_by_refusal marks (last_refusal marks)

-- the object of an entry by its order
abbrev pub object_by : TimedEntry → Order → Data
object_by told (orders.Key trunk sent) = object
    (member (codes "at_ms") (number (unsigned told.at))
    (member (codes "dialled") (string (digits_text told.dialled))
    (member (codes "entry") (number (unsigned told.number))
    (member (codes "from_ms") (number (unsigned told.began))
    (member (codes "keys") (array (items_of (keys_of sent)))
    (member (codes "line") (number (unsigned told.line))
    (member (codes "outcome") (string (codes "KEYED"))
    (member (codes "sent") (string (digits_text sent))
    (member (codes "trunk") (number (unsigned trunk)) no_members)))))))))
object_by told (orders.Refused reason heard) = object
    (member (codes "at_ms") (number (unsigned told.at))
    (member (codes "dialled") (string (digits_text told.dialled))
    (member (codes "entry") (number (unsigned told.number))
    (member (codes "from_ms") (number (unsigned told.began))
    (member (codes "heard") (number (unsigned heard))
    (member (codes "line") (number (unsigned told.line))
    (member (codes "outcome") (string (codes "REFUSED"))
    (member (codes "reason") (string (reason_text reason)) no_members))))))))

-- the object of an entry
abbrev pub object_of : TimedEntry → Data
object_of told = object_by told (order_in told.marks)

-- the object of one mark of an entry: a trunk group, a key with its tones in Hz, or a refusal
abbrev pub mark_object : ℕ → ℕ → ℕ → Mark → Data
mark_object line entry at (mark.Trunk trunk) = object
    (member (codes "at_ms") (number (unsigned at))
    (member (codes "entry") (number (unsigned entry))
    (member (codes "line") (number (unsigned line))
    (member (codes "trunk") (number (unsigned trunk)) no_members))))
mark_object line entry at (mark.Tone k pair) = object
    (member (codes "at_ms") (number (unsigned at))
    (member (codes "entry") (number (unsigned entry))
    (member (codes "high_hz") (number (unsigned pair.high))
    (member (codes "key") (string (key_text k))
    (member (codes "line") (number (unsigned line))
    (member (codes "low_hz") (number (unsigned pair.low)) no_members))))))
mark_object line entry at (mark.Refused reason heard) = object
    (member (codes "at_ms") (number (unsigned at))
    (member (codes "entry") (number (unsigned entry))
    (member (codes "heard") (number (unsigned heard))
    (member (codes "line") (number (unsigned line))
    (member (codes "reason") (string (reason_text reason)) no_members)))))

-- the object of an entry, which also has the times at which its attempt began and at which it is complete
abbrev pub timed_object : Option (List ℕ) → Option (List ℕ) → TimedEntry → Data
timed_object from at told = with_time (codes "from") from (with_time (codes "at") at (object_of told))

-- the object of a mark, which also has the time at which its entry is complete
abbrev pub timed_mark : Option (List ℕ) → ℕ → ℕ → ℕ → Mark → Data
timed_mark time line entry at m = with_time (codes "at") time (mark_object line entry at m)

-- the object of the totals
abbrev pub totals_object : ℕ → ℕ → Data
totals_object keyed refused = object
    (member (codes "keyed") (number (unsigned keyed))
    (member (codes "refused") (number (unsigned refused)) no_members))

-- an object as a text line
abbrev pub line_of : Data → List ℕ
line_of data_ = compact_text data_ ++ codes "\n"
