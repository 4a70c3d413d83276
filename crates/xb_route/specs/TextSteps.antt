-- How numbers are read, one after the other.
use Rattle.std.specs.Prelude.{◌≡◌, ◌⊎◌, ℕ, List, ◌∷◌, ◌++◌, map, Ok, Err, Vec}
use Rattle.xb_route.specs.declared.fault.NumberFault.{NumberFault}
use Rattle.xb_route.specs.declared.fault.NumberFault.TheVariants as fault
use Rattle.xb_route.specs.NumberTexts.{Numbers, numbers_of}

-- the digits of numbers that are kept as lists
abbrev pub digits_of_numbers : {A : Type 0} → List (Vec ℕ A) → List (List ℕ)
digits_of_numbers numbers = map (λ number. number.items) numbers

-- memory ran out, or this is the first fault, with its place
abbrev pub IsWrong : Numbers → ℕ × NumberFault → Type 0
IsWrong numbers wrong = (wrong.1 ≡ fault.NoMemory) ⊎ (numbers ≡ Err wrong)

-- numbers after earlier ones, or their fault
abbrev pub after : List (List ℕ) → Numbers → Numbers
after earlier (Ok later) = Ok (earlier ++ later)
after earlier (Err wrong) = Err wrong

-- a text is taken, whatever texts come after it
abbrev pub TakesText : ℕ → List ℕ → List (List ℕ) → List (List ℕ) → Type 0
TakesText n text old new =
    (later : List (ℕ × List ℕ)) → after old (numbers_of ((n, text) ∷ later)) ≡ after new (numbers_of later)

-- a text has a fault, whatever texts come after it; or memory ran out
abbrev pub StopsBy : ℕ → List ℕ → ℕ × NumberFault → Type 0
StopsBy n text wrong =
    (wrong.1 ≡ fault.NoMemory) ⊎ ((later : List (ℕ × List ℕ)) → numbers_of ((n, text) ∷ later) ≡ Err wrong)
