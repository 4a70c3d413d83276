-- What is certain by the keys so far.
use Rattle.std.specs.Prelude.{◌≡◌, ℕ, List, ◌++◌}
use Rattle.xb_model.specs.declared.dialled.Dialled.{Dialled}
use Rattle.xb_incoming.specs.declared.key.TimedKey.{TimedKey}
use Rattle.xb_incoming.specs.declared.register.Register.{Register}
use Rattle.xb_incoming.specs.Attempts.{outcomes}
use Rattle.xb_incoming.specs.Machine.{HasTaken}

-- all begins with this
abbrev pub Begins : List Dialled → List Dialled → Type 0
Begins first all = (rest : List Dialled) × (all ≡ first ++ rest)

-- whatever keys come later
abbrev pub IsSure : ℕ → List TimedKey → List Dialled → Type 0
IsSure limit keys told = (later : List TimedKey) → Begins told (outcomes limit (keys ++ later))

-- it is sure, and nothing longer is
pub record IsCertain (limit : ℕ) (keys : List TimedKey) (told : List Dialled) : Type 0 where
  pub sure : IsSure limit keys told
  pub most : (longer : List Dialled) → IsSure limit keys longer → Begins longer told

abbrev pub ToldIsCertain : Type 0
ToldIsCertain = (limit : ℕ) (register : Register) (keys : List TimedKey) (told : List Dialled)
    → HasTaken limit register keys told → IsCertain limit keys told
