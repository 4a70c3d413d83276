-- Names, each once.
use Rattle.std.specs.Prelude.{ℕ, List, [], ◌∷◌, ◌++◌, Bool, false, true, bytes_eq, length, map, nat_lt, string_bytes, take, if◌then◌else◌}
use Rattle.std.specs.List.{list_any}
use Rattle.xb_loop.specs.declared.names.TheConstants.{MOST_NAMES}
use Rattle.xb_loop.specs.declared.names.WireNames.{WireNames}

-- a name is among names
abbrev pub is_among : List ℕ → List (List ℕ) → Bool
is_among name names = list_any (λ other. bytes_eq other name) names

-- names without those that stand among them before, and without these
abbrev pub others_once : List (List ℕ) → List (List ℕ) → List (List ℕ)
others_once seen [] = []
others_once seen (name ∷ rest) =
    if is_among name seen then others_once seen rest else name ∷ others_once (seen ++ name ∷ []) rest

abbrev pub each_once : List (List ℕ) → List (List ℕ)
each_once names = others_once [] names

-- the names that are kept, and whether there are more
pub record Named : Type 0 where
  pub names : List (List ℕ)
  pub are_more : Bool

abbrev pub named : List (List ℕ) → Bool → Named
named names are_more = record { names = names; are_more = are_more }

abbrev pub named_in : WireNames → Named
named_in names = named (map string_bytes names.names.items) names.are_more

-- the first 32 of them, each once
abbrev pub named_by : List (List ℕ) → Named
named_by names = named (take MOST_NAMES (each_once names)) (nat_lt MOST_NAMES (length (each_once names)))

-- a name more, one after the other
abbrev pub no_names : Named
no_names = named [] false

abbrev pub name_added : Named → List ℕ → Named
name_added found name =
    if is_among name found.names then found
    else (if nat_lt (length found.names) MOST_NAMES then named (found.names ++ name ∷ []) found.are_more
    else named found.names true)

abbrev pub all_added : Named → List (List ℕ) → Named
all_added found [] = found
all_added found (name ∷ rest) = all_added (name_added found name) rest
