-- How a text of calls is read, line by line.
use Rattle.std.specs.Prelude.{◌≡◌, ◌⊎◌, ℕ, ◌+◌, List, ◌∷◌, ◌++◌, Option, Result, Ok, Err}
use Rattle.xb_model.specs.declared.plan.Plan.{Plan}
use Rattle.xb_calls.specs.declared.fault.CallFault.{CallFault}
use Rattle.xb_calls.specs.declared.fault.CallFault.TheVariants as fault
use Rattle.xb_calls.specs.Calls.{DialledCall}
use Rattle.xb_calls.specs.CallTexts.{calls_from}

-- calls after earlier ones, or their fault
abbrev pub after : List DialledCall → Result (List DialledCall) CallFault
    → Result (List DialledCall) CallFault
after earlier (Ok later) = Ok (earlier ++ later)
after earlier (Err f) = Err f

-- a text line is taken, whatever lines come after it
abbrev pub TakesLine : Option Plan → ℕ → List ℕ → List DialledCall → List DialledCall → Type 0
TakesLine whole n line old new =
    (later : List (List ℕ))
    → after old (calls_from whole n (line ∷ later)) ≡ after new (calls_from whole (n + 1) later)

-- a text line has a fault, whatever lines come after it; or memory ran out
abbrev pub StopsBy : Option Plan → ℕ → List ℕ → CallFault → Type 0
StopsBy whole n line f =
    (f ≡ fault.NoMemory) ⊎ ((later : List (List ℕ)) → calls_from whole n (line ∷ later) ≡ Err f)
