-- What was keyed and not heard, and heard and not keyed.
use Rattle.std.specs.Prelude.{◌≡◌, ℕ, suc, List, [], ◌∷◌, ◌++◌, bytes_eq, codes, decimal, drop, map, take, Option, Some, None}
use Rattle.std.specs.List.{flat_map, position}
use Rattle.xb_measured.specs.Seconds.{seconds_text}
use Rattle.xb_rx.specs.Entries.{KeyedEntry}

-- the first place where keys were keyed
abbrev pub place_of : List KeyedEntry → List ℕ → Option ℕ
place_of keyed keys = position (λ entry. bytes_eq entry.keys keys) keyed

unfoldable pub missed_line : KeyedEntry → List ℕ
missed_line entry =
    codes "keyed and not heard: line " ++ (decimal entry.line ++ (codes " entry " ++ (decimal entry.number
    ++ (codes ":" ++ (entry.keys ++ codes "\n")))))

abbrev pub missed_lines : List KeyedEntry → List ℕ
missed_lines entries = flat_map missed_line entries

-- when it was heard, in seconds
abbrev pub place_text : Option ℕ → List ℕ
place_text None = []
place_text (Some ms) = codes " at " ++ (seconds_text ms ++ codes " s")

unfoldable pub extra_line : KeyedEntry → List ℕ
extra_line entry =
    codes "heard and not keyed: entry " ++ (decimal entry.number ++ (place_text entry.at
    ++ (codes ":" ++ (entry.keys ++ codes "\n"))))

abbrev pub difference_at : List KeyedEntry → KeyedEntry → Option ℕ → (List KeyedEntry → List ℕ) → List ℕ
difference_at keyed entry None later = extra_line entry ++ later keyed
difference_at keyed entry (Some place) later = missed_lines (take place keyed) ++ later (drop (suc place) keyed)

-- what was heard is found at the first place where it was keyed, after the last that was found
unfoldable pub differences : List KeyedEntry → List KeyedEntry → List ℕ
differences keyed [] = missed_lines keyed
differences keyed (entry ∷ heard) =
    difference_at keyed entry (place_of keyed entry.keys) (λ left. differences left heard)

-- the keys of each
abbrev pub keys_in : List KeyedEntry → List (List ℕ)
keys_in entries = map (λ (entry : KeyedEntry). entry.keys) entries

-- there are no differences just where the keys are the same
pub record DifferByKeys (keyed heard : List KeyedEntry) : Type 0 where
  pub same : keys_in keyed ≡ keys_in heard → differences keyed heard ≡ []
  pub none : differences keyed heard ≡ [] → keys_in keyed ≡ keys_in heard

abbrev pub SameKeysDoNotDiffer : Type 0
SameKeysDoNotDiffer = (keyed heard : List KeyedEntry) → DifferByKeys keyed heard
