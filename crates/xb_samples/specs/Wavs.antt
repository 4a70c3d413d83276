-- A WAV file that is no recording.
use Rattle.std.specs.Prelude.{◌≡◌, ℕ, List, [], ◌++◌, Err}
use Rattle.xb_riff.specs.declared.head.HeadFault.{HeadFault}
use Rattle.xb_riff.specs.Heads.{HeadSoFar, rest_of}

-- whatever follows these bytes, no samples begin
abbrev pub BeginsNothing : HeadSoFar → List ℕ → Type 0
BeginsNothing head bytes = (rest : List ℕ) → (fault : HeadFault) × (rest_of head (bytes ++ rest) ≡ Err fault)

-- a file that ends there has none
abbrev pub EndsBefore : HeadSoFar → Type 0
EndsBefore head = (fault : HeadFault) × (rest_of head [] ≡ Err fault)
