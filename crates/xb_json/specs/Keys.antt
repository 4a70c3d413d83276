-- The digits and the keys of a call as JSON.
use Rattle.std.specs.Prelude.{ℕ, List, ◌∷◌, [], ◌++◌, codes, decimal, map}
use Rattle.std.specs.List.{flat_map}
use Rattle.serde_json.specs.Data.{Data, string}

-- digits, one after the other
abbrev pub digits_text : List ℕ → List ℕ
digits_text digits = flat_map decimal digits

-- the keys of a keying, by the page's words
abbrev pub keys_of : List ℕ → List Data
keys_of digits = string (codes "KP") ∷ (map (λ digit. string (decimal digit)) digits ++ string (codes "ST") ∷ [])
