-- An object that also has a time has no more floats.
use Rattle.std.proofs.Common.{◌≡◌, ◌||◌, ℕ, List, Bool, false, true, Option, Some, None, Ordering, Less, Equal, Greater, nat_cmp, refl, sym}
use Rattle.std.proofs.lemmas.Bool.{false≢true}
use Rattle.std.specs.Cmp.Lexicographic.{slice_cmp}
use Rattle.std.specs.Ordering.{match_ordering}
use Rattle.serde_json.specs.Data.{Data, Members, array, boolean, member, no_members, null, number, object, put, string}
use Rattle.serde_json.specs.Written.{has_float, members_have_float}
use Rattle.xb_clock.specs.Objects.{with_text, with_time}

without_floats : (x y : Bool) → (x || y) ≡ false → (x ≡ false) × (y ≡ false)
without_floats false y none = (refl, none)
without_floats true y none = absurd (false≢true (sym none))

neither : (x y : Bool) → x ≡ false → y ≡ false → (x || y) ≡ false
neither false y p q = q
neither true y p q = absurd (false≢true (sym p))

picked : (o : Ordering) (a b c : Members) → members_have_float a ≡ false → members_have_float b ≡ false → members_have_float c ≡ false
    → members_have_float (match_ordering o a b c) ≡ false
picked Less a b c p q r = p
picked Equal a b c p q r = q
picked Greater a b c p q r = r

put-no-floats : (name text : List ℕ) (members : Members) → members_have_float members ≡ false → members_have_float (put name (string text) members) ≡ false
put-no-floats name text no_members none = refl
put-no-floats name text (member l value members) none =
    let both = without_floats (has_float value) (members_have_float members) none in
    picked (slice_cmp nat_cmp name l) (member name (string text) (member l value members)) (member l (string text) members)
    (member l value (put name (string text) members)) none both.1
    (neither (has_float value) (members_have_float (put name (string text) members)) both.0 (put-no-floats name text members both.1))

-- a text under a name is no float
with_text-no-floats : (name text : List ℕ) (value : Data) → has_float value ≡ false → has_float (with_text name text value) ≡ false
with_text-no-floats name text null none = none
with_text-no-floats name text (boolean b) none = none
with_text-no-floats name text (number n) none = none
with_text-no-floats name text (string s) none = none
with_text-no-floats name text (array values) none = none
with_text-no-floats name text (object members) none = put-no-floats name text members none

pub with_time-no-floats : (name : List ℕ) (time : Option (List ℕ)) (value : Data) → has_float value ≡ false → has_float (with_time name time value) ≡ false
with_time-no-floats name None value none = none
with_time-no-floats name (Some text) value none = with_text-no-floats name text value none
