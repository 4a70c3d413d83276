-- The line that says how the program is called.
use Rattle.std.specs.Prelude.{ℕ, ◌≡◌, ◌++◌, ◌||◌, Bool, true, List, [], ◌∷◌, bytes_eq, codes, nat_eq}
use Rattle.std.specs.List.{list_all, starts_with}
use Rattle.xb_office.specs.Program.{command_of_options, usage_line}

-- whether a text has a part
unfoldable pub has_part : List ℕ → List ℕ → Bool
has_part part [] = bytes_eq part []
has_part part (byte ∷ rest) = starts_with nat_eq (byte ∷ rest) part || has_part part rest

-- whether a usage names an option, as `[--name N]`
abbrev pub names_option : List ℕ → List ℕ → Bool
names_option usage name = has_part (codes "[--" ++ name ++ codes " ") usage

-- the line of refused words names each option of the command
abbrev pub UsageNamesEachOption : Type 0
UsageNamesEachOption = list_all (λ rule. names_option usage_line rule.id) command_of_options.top.rules ≡ true
