-- The keys of a table's text, over the untyped tree that the text writes.
use Rattle.std.specs.Prelude.{ℕ, ℤ, List, codes, Option, Some, None, option_and_then, option_map}
use Rattle.toml.specs.Data.{Data, Members, as_integer, as_str, as_table, get_member}
use denote.Ref.{Bor}
use Rattle.xb_routes.specs.declared.keys.RouteWords.{RouteWords}

-- what a key holds, read as one kind of value: none where the key is missing or holds another kind
abbrev pub required : {A : Type 0} → (Data → Option A) → List ℕ → Members → Option A
required read name keys = option_and_then read (get_member name keys)

abbrev pub may_be : {A : Type 0} → (Data → Option A) → Option Data → Option (Option A)
may_be read None = Some None
may_be read (Some value) = option_map Some (read value)

-- the same for a key that may be missing: none where it holds another kind of value
abbrev pub optional : {A : Type 0} → (Data → Option A) → List ℕ → Members → Option (Option A)
optional read name keys = may_be read (get_member name keys)

-- the four keys of a route, each of its kind of value
pub record FourKeys : Type 0 where
  pub code : List ℕ
  pub trunk : ℤ
  pub delete : Option ℤ
  pub prefix : Option (List ℕ)

abbrev pub four_keys : List ℕ → ℤ → Option ℤ → Option (List ℕ) → FourKeys
four_keys code trunk delete prefix = record { code = code; trunk = trunk; delete = delete; prefix = prefix }

-- the four keys of a route's table; none where one is missing that is required, or is of another kind
abbrev pub keys_of_table : Members → Option FourKeys
keys_of_table keys =
    option_and_then (λ code.
    option_and_then (λ trunk.
    option_and_then (λ delete.
    option_map (λ prefix. four_keys code trunk delete prefix)
    (optional as_str (codes "prefix") keys))
    (optional as_integer (codes "delete") keys))
    (required as_integer (codes "trunk") keys))
    (required as_str (codes "code") keys)

-- the four keys of a route
abbrev pub keys_of : Data → Option FourKeys
keys_of value = option_and_then keys_of_table (as_table value)

-- what the keys hold, by the words of who has read them
abbrev pub keys_in : RouteWords → FourKeys
keys_in words = four_keys words.code.now words.trunk words.delete
    (option_map (λ (text : Bor (List ℕ)). text.now) words.prefix)
