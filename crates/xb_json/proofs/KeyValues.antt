-- The keys of a keying as values, which have no float.
use Rattle.std.proofs.Common.{◌≡◌, ℕ, ◌+◌, ◌<◌, false, List, [], ◌∷◌, ◌++◌, map, length, take, get_or, codes, decimal, refl, sym, ap, ◌∙◌}
use Rattle.std.proofs.lemmas.List.{map-append, take_more}
use Rattle.serde_json.specs.Data.{Data, string}
use Rattle.serde_json.specs.View.{items_of, view}
use Rattle.serde_json.specs.Written.{items_have_float}
use Rattle.serde_json.specs.declared.value.Value.{Value}
use Rattle.xb_json.specs.Keys.{keys_of}

-- the key of a digit
abbrev pub digit_key : ℕ → Data
digit_key digit = string (decimal digit)

-- one digit more
pub keys-more : (items : List Value) (value : Value) (digits : List ℕ) (i d : ℕ) → i < length digits
    → map view items ≡ string (codes "KP") ∷ map digit_key (take i digits)
    → view value ≡ digit_key (get_or digits i d)
    → map view (items ++ value ∷ []) ≡ string (codes "KP") ∷ map digit_key (take (i + 1) digits)
keys-more items value digits i d below so_far is =
    map-append view items (value ∷ [])
    ∙ ap (λ keys. keys ++ view value ∷ []) so_far
    ∙ ap (λ key. string (codes "KP") ∷ (map digit_key (take i digits) ++ key ∷ [])) is
    ∙ ap (λ keys. string (codes "KP") ∷ keys) (sym (map-append digit_key (take i digits) (get_or digits i d ∷ [])))
    ∙ ap (λ front. string (codes "KP") ∷ map digit_key front) (sym (take_more digits i d below))

-- and the last key
pub keys-end : (items : List Value) (value : Value) (digits : List ℕ)
    → map view items ≡ string (codes "KP") ∷ map digit_key digits → view value ≡ string (codes "ST")
    → map view (items ++ value ∷ []) ≡ keys_of digits
keys-end items value digits so_far is =
    map-append view items (value ∷ [])
    ∙ ap (λ keys. keys ++ view value ∷ []) so_far
    ∙ ap (λ key. string (codes "KP") ∷ (map digit_key digits ++ key ∷ [])) is

-- the keys after KP are texts
pub no-floats-in-keys : (digits : List ℕ)
    → items_have_float (items_of (map digit_key digits ++ string (codes "ST") ∷ [])) ≡ false
no-floats-in-keys [] = refl
no-floats-in-keys (digit ∷ digits) = no-floats-in-keys digits
