-- The keyings among keys that are heard, and the keys that stand in none.
use Rattle.std.specs.Prelude.{ℕ, zero, suc, List, [], ◌∷◌, length, Bool, true, false, if◌then◌else◌, Option, Some, None, option_and_then, option_map, take}
use Rattle.std.specs.List.{flat_map}
use Rattle.xb_model.specs.declared.key.Key.TheVariants.{Digit, Kp, St}
use Rattle.xb_measured.specs.declared.heard.Heard.{Heard}
use Rattle.xb_measured.specs.declared.meaning.Meaning.{Meaning}
use Rattle.xb_measured.specs.declared.meaning.Meaning.TheVariants as meaning
use Rattle.xb_measured.specs.Meanings.{meaning_of}
use Rattle.xb_measured.specs.declared.keys.TheConstants.{MOST_DIGITS}

abbrev pub begins_keying : Meaning → Bool
begins_keying (meaning.Key Kp) = true
begins_keying m = false

abbrev pub is_kp : Heard → Bool
is_kp key = begins_keying (meaning_of key.sight.pair)

abbrev pub ends_keying : Meaning → Bool
ends_keying (meaning.Key St) = true
ends_keying m = false

abbrev pub is_st : Heard → Bool
is_st key = ends_keying (meaning_of key.sight.pair)

abbrev pub digit_by : Meaning → Option ℕ
digit_by (meaning.Key (Digit d)) = Some d
digit_by m = None

-- the digit of a key
abbrev pub digit_of : Heard → Option ℕ
digit_of key = digit_by (meaning_of key.sight.pair)

abbrev pub before_digits : Option ℕ → Option (List ℕ) → Option (List ℕ)
before_digits digit digits = option_and_then (λ d. option_map (λ ds. d ∷ ds) digits) digit

-- the digits that keys begin with, at most n, where an ST comes after them
unfoldable pub digits_to_st : ℕ → List Heard → Option (List ℕ)
digits_to_st n [] = None
digits_to_st zero (key ∷ keys) = if is_st key then Some [] else None
digits_to_st (suc n) (key ∷ keys) =
    if is_st key then Some [] else before_digits (digit_of key) (digits_to_st n keys)

-- a keying is a KP, digits, and an ST
abbrev pub keying_at : Heard → List Heard → Option (List ℕ)
keying_at key keys = if is_kp key then digits_to_st MOST_DIGITS keys else None

abbrev pub one_more : Option (List ℕ) → List (List ℕ) → List (List ℕ)
one_more None keyings = keyings
one_more (Some digits) keyings = digits ∷ keyings

-- the digits of each keying, in order
unfoldable pub keyings : List Heard → List (List ℕ)
keyings [] = []
keyings (key ∷ keys) = one_more (keying_at key keys) (keyings keys)

-- keys are cut into keyings, each with all its keys, and keys that stand in none
pub data Part : Type 0 where
  is_keying : List Heard → Part
  is_loose : Heard → Part

-- after its first key a keying has so many digits, and an ST
abbrev pub part_by : Option (List ℕ) → Heard → List Heard → (ℕ → List Part) → List Part
part_by None key keys next = is_loose key ∷ next 0
part_by (Some digits) key keys next =
    is_keying (key ∷ take (suc (length digits)) keys) ∷ next (suc (length digits))

-- the parts of keys, after n that stand in a keying
unfoldable pub parts_after : ℕ → List Heard → List Part
parts_after n [] = []
parts_after zero (key ∷ keys) = part_by (keying_at key keys) key keys (λ n. parts_after n keys)
parts_after (suc n) (key ∷ keys) = parts_after n keys

abbrev pub parts_of : List Heard → List Part
parts_of keys = parts_after 0 keys

abbrev pub listed_loose : Part → List Heard
listed_loose (is_keying keys) = []
listed_loose (is_loose key) = key ∷ []

-- the keys that stand in no keying
abbrev pub loose_keys : List Heard → List Heard
loose_keys keys = flat_map listed_loose (parts_of keys)

-- the digits of keys
abbrev pub listed_digit : Option ℕ → List ℕ
listed_digit None = []
listed_digit (Some d) = d ∷ []

abbrev pub digits_in : List Heard → List ℕ
digits_in keys = flat_map (λ key. listed_digit (digit_of key)) keys
