-- What comes before the rows of a deck.
use Rattle.std.specs.Prelude.{ℕ, ◌≡◌, ◌≢◌, ◌⊎◌, ◌++◌, List, [], ◌∷◌, Option, Some, None, IfOk, IfSome, Ok, Err, codes, nat_eq, if◌then◌else◌}
use Rattle.std.specs.List.{ends_with}
use Rattle.xb_command.specs.Files.{Bytes}
use Rattle.xb_model.specs.LawfulLimits.{standard_limits}
use Rattle.xb_routes.specs.declared.fault.RouteFault.{RouteFault}
use Rattle.xb_routes.specs.declared.fault.RouteFault.TheVariants as route_faults
use Rattle.xb_routes.specs.Table.{Table}
use Rattle.xb_routes.specs.Text.{table_of_text}
use Rattle.xb_loop.specs.declared.fault.LoopFault.{LoopFault}
use Rattle.xb_loop.specs.declared.fault.LoopFault.TheVariants as faults

-- a table whose last line ends
abbrev pub with_line_end : List ℕ → List ℕ
with_line_end [] = []
with_line_end (byte ∷ rest) =
    if ends_with nat_eq (byte ∷ rest) (10 ∷ []) then byte ∷ rest else (byte ∷ rest) ++ 10 ∷ []

-- a table, and the line that cuts it off
abbrev pub table_ended : List ℕ → List ℕ
table_ended table = with_line_end table ++ codes "---\n"

-- nothing where no table is named, and else the table of the name, where its bytes are known: it is a good one
abbrev pub IsBeforeRows : Bytes → Option (List ℕ) → List ℕ → Type 0
IsBeforeRows files None text = text ≡ []
IsBeforeRows files (Some name) text =
    IfSome (files name) (λ bytes. ((table : Table) × (table_of_text bytes ≡ Ok table)) × (text ≡ table_ended bytes))

-- the release limit of the table of the name, where its bytes are known, and the standard one where no table is named
abbrev pub IsReleaseOf : Bytes → Option (List ℕ) → ℕ → Type 0
IsReleaseOf files None release = release ≡ standard_limits.release
IsReleaseOf files (Some name) release =
    IfSome (files name) (λ bytes. IfOk (table_of_text bytes) (λ table. release ≡ table.limits.release))

-- why it does not come, where one is named: that file could not be read, its table is refused, or memory ran out
abbrev pub IsFaultOfTable : Bytes → Option (List ℕ) → LoopFault → Type 0
IsFaultOfTable files None fault = ⊥
IsFaultOfTable files (Some name) (faults.Table told error) = told.now ≡ name
IsFaultOfTable files (Some name) (faults.Routes fault) =
    IfSome (files name) (λ table. table_of_text table ≡ Err fault)
IsFaultOfTable files (Some name) faults.NoMemory = Unit {0}
IsFaultOfTable files (Some name) (faults.Recording fault) = ⊥
IsFaultOfTable files (Some name) (faults.NoWire fault wire) = ⊥
IsFaultOfTable files (Some name) (faults.NoLine listing) = ⊥
IsFaultOfTable files (Some name) (faults.Unlisted fault) = ⊥
IsFaultOfTable files (Some name) faults.Wires = ⊥
IsFaultOfTable files (Some name) faults.More = ⊥
IsFaultOfTable files (Some name) faults.Tell = ⊥

-- the fault of a table that is refused
abbrev pub IsFaultOfRoutes : RouteFault → LoopFault → Type 0
IsFaultOfRoutes fault told =
    (told ≡ faults.NoMemory) ⊎ ((fault ≢ route_faults.NoMemory) × (told ≡ faults.Routes fault))
