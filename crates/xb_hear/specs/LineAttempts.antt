-- What was heard of the lines of a deck.
use Rattle.std.specs.Prelude.{ℕ, zero, suc, ◌≡◌, Bool, List, [], ◌∷◌, ◌++◌, if◌then◌else◌}
use Rattle.xb_model.specs.declared.limits.Limits.{Limits}
use Rattle.xb_model.specs.declared.plan.Plan.{Plan}
use Rattle.xb_model.specs.Numbers.{outcomes_of}
use Rattle.xb_model.specs.Records.{record_of}
use Rattle.xb_model.specs.Rows.{LoopRow}
use Rattle.xb_heard.specs.Attempts.{AttemptOfRuns, heard_attempts, outcomes_told}
use Rattle.xb_heard.specs.PlacedRuns.{placed_runs}

-- the attempts of a line, each with what came of it
abbrev pub attempts_of_line : Plan → Limits → List LoopRow → ℕ → List AttemptOfRuns
attempts_of_line plan limits rows line = heard_attempts plan limits (placed_runs line rows)

-- what came of the attempts of each line is what the page has of its record
abbrev pub AgreesWithPage : Plan → Limits → List LoopRow → Type 0
AgreesWithPage plan limits rows = (line : ℕ)
    → outcomes_told (attempts_of_line plan limits rows line) ≡ outcomes_of plan limits (record_of line rows)

-- a line, where a test of its attempts holds
abbrev pub line_if : (List AttemptOfRuns → Bool) → ℕ → List AttemptOfRuns → List ℕ
line_if holds line attempts = if holds attempts then line ∷ [] else []

-- such lines below n, ascending
unfoldable pub lines_with : (List AttemptOfRuns → Bool) → Plan → Limits → List LoopRow → ℕ → List ℕ
lines_with holds plan limits rows zero = []
lines_with holds plan limits rows (suc n) =
    lines_with holds plan limits rows n ++ line_if holds n (attempts_of_line plan limits rows n)
