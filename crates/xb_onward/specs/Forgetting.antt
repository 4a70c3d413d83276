-- After which keys a register stands as at first.
use Rattle.std.specs.Prelude.{◌≡◌, ◌≢◌, ℕ, List, [], ◌∷◌, ◌++◌, false}
use Rattle.xb_incoming.specs.declared.key.Symbol.TheVariants.{St}
use Rattle.xb_incoming.specs.declared.key.TimedKey.{TimedKey}
use Rattle.xb_incoming.specs.Attempts.{is_kp, outcomes}
use Rattle.xb_incoming.specs.Machine.{told_by}

-- what is told of later keys, and of their end, is what is told of them alone
pub record IsNew (limit : ℕ) (keys : List TimedKey) : Type 0 where
  pub told : (later : List TimedKey) → told_by limit (keys ++ later) ≡ told_by limit keys ++ told_by limit later
  pub ended : (later : List TimedKey) → outcomes limit (keys ++ later) ≡ told_by limit keys ++ outcomes limit later

-- after an ST that told something more
abbrev pub IsNewAfterSt : Type 0
IsNewAfterSt = (limit : ℕ) (keys : List TimedKey) (st : TimedKey) → st.what ≡ St
    → told_by limit (keys ++ st ∷ []) ≢ told_by limit keys → IsNew limit (keys ++ st ∷ [])

-- after a first key that is no KP, of which nothing is told
abbrev pub IsNewBeforeKp : Type 0
IsNewBeforeKp = (limit : ℕ) (key : TimedKey) → is_kp key.what ≡ false
    → IsNew limit (key ∷ []) × (told_by limit (key ∷ []) ≡ [])
