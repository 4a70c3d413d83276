-- An object of its members.
use Rattle.std.specs.Prelude.{ℕ, List, [], ◌∷◌}
use Rattle.std.specs.Borrow.{Bor}
use Rattle.serde_json.specs.Data.{Data, null, boolean, number, string, array, object, unsigned, Members, no_members, put}
use Rattle.serde_json.specs.Find.{of_integer}
use Rattle.serde_json.specs.View.{items_of, view}
use Rattle.xb_json.specs.Keys.{digits_text, keys_of}
use Rattle.xb_json.specs.declared.object.Member.{Member}
use Rattle.xb_json.specs.declared.object.Member.TheVariants as kinds

-- what a member is
abbrev pub data_of : Member → Data
data_of kinds.Null = null
data_of (kinds.Bool is_true) = boolean is_true
data_of (kinds.Number n) = number (unsigned n)
data_of (kinds.Signed n) = number (of_integer n)
data_of (kinds.Word word) = string word.now
data_of (kinds.Text text) = string text.now
data_of (kinds.Digits digits) = string (digits_text digits.now)
data_of (kinds.Keys digits) = array (items_of (keys_of digits.now))
data_of (kinds.Value value) = view value.now

-- members with these put to them, one after the other
abbrev pub with_members : Members → List (Bor (List ℕ) × Member) → Members
with_members members [] = members
with_members members (one ∷ rest) = with_members (put one.0.now (data_of one.1) members) rest

abbrev pub object_of : List (Bor (List ℕ) × Member) → Data
object_of members = object (with_members no_members members)
