-- A digit is mutilated exactly where the report names what spoils it.
use Rattle.std.specs.Prelude.{◌≡◌, ℕ, List, is_none, is_some}
use Rattle.std.specs.List.{AllByRecursion}
use Rattle.xb_model.specs.declared.limits.Limits.{Limits}
use Rattle.xb_model.specs.declared.plan.Plan.{Plan}
use Rattle.xb_model.specs.Rows.{LoopRow}
use Rattle.xb_model.specs.Numbers.{digit_of_train}
use Rattle.xb_heard.specs.PlacedRuns.{placed_runs}
use Rattle.xb_heard.specs.Digits.{DigitOfRuns, train_in}
use Rattle.xb_heard.specs.Attempts.{heard_attempts}

-- the chain takes a digit for mutilated exactly where the report names what spoils it
abbrev pub IsTakenAsNamed : Limits → DigitOfRuns → Type 0
IsTakenAsNamed limits digit = is_none (digit_of_train limits (train_in digit)) ≡ is_some digit.spoiler

-- so it is of each digit of the report of a line
abbrev pub MutilatedIsNamed : Type 0
MutilatedIsNamed =
    (plan : Plan) (limits : Limits) (l : ℕ) (rows : List LoopRow)
    → AllByRecursion (λ attempt. AllByRecursion (IsTakenAsNamed limits) attempt.digits)
    (heard_attempts plan limits (placed_runs l rows))
