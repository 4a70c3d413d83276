-- The states of all lines.
use Rattle.std.specs.Prelude.{ℕ, List}
use Rattle.xb_model.specs.LineValues.{AreValues}
use Rattle.xb_model.specs.Image.{Machine, state_after}

-- at the place of each line stands its state after the items `earlier`
abbrev pub AreStates : {I O S : Type 0} → (I → ℕ) → Machine I O S → List S → List I → Type 0
AreStates line machine states earlier = AreValues states (state_after line machine earlier)
