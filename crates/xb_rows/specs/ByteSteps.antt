-- The machine that reads records, as the one of `csv`.
use Rattle.std.specs.Prelude.{ℕ, ◌≡◌}
use Rattle.csv.specs.Machine.{step}
use Rattle.csv.specs.Reading.{default_config}
use Rattle.csv.specs.declared.parser.Action.{Action as CsvAction}
use Rattle.csv.specs.declared.parser.Action.TheVariants as csv_act
use Rattle.csv.specs.declared.parser.State.{State as CsvState}
use Rattle.csv.specs.declared.parser.State.TheVariants as csv_st
use Rattle.xb_rows.specs.declared.machine.Action.{Action}
use Rattle.xb_rows.specs.declared.machine.Action.TheVariants as act
use Rattle.xb_rows.specs.declared.machine.State.{State}
use Rattle.xb_rows.specs.declared.machine.State.TheVariants as st

-- a state, as `csv` has it
abbrev pub csv_state : State → CsvState
csv_state st.StartRecord = csv_st.StartRecord
csv_state st.StartField = csv_st.StartField
csv_state st.InField = csv_st.InField
csv_state st.InQuoted = csv_st.InQuoted
csv_state st.AfterQuote = csv_st.AfterQuote
csv_state st.AfterCr = csv_st.AfterCr

-- an action, as `csv` has it
abbrev pub csv_action : Action → CsvAction
csv_action act.Skip = csv_act.Skip
csv_action act.Copy = csv_act.Copy
csv_action act.EndField = csv_act.EndField
csv_action act.EndRecord = csv_act.EndRecord

-- what `csv` does with a byte, by its defaults
abbrev pub IsStep : State × Action → State → ℕ → Type 0
IsStep stepped state byte =
    (csv_state stepped.0 ≡ (step default_config (csv_state state) byte).0)
    × (csv_action stepped.1 ≡ (step default_config (csv_state state) byte).1)
