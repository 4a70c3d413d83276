-- What is said step by step.
use Rattle.std.specs.Prelude.{◌≡◌, ◌≢◌, ℕ, List, [], ◌∷◌, ◌++◌, Bool, false, Option, Some, None, Result, Ok, Err, nat_lt}
use Rattle.xb_contact.specs.declared.event.Event.{Event}
use Rattle.xb_contact.specs.declared.event.Refusal.{Refusal}
use Rattle.xb_contact.specs.declared.event.Refusal.TheVariants.{NoMemory}

-- the events that are said and the state then, or why it is refused
abbrev pub Said : Type 0 → Type 0
Said S = Result (List Event × S) Refusal

-- what follows from a value, or the first refusal
abbrev pub result_and_then : {T U E : Type 0} → (T → Result U E) → Result T E → Result U E
result_and_then {T} {U} {E} next (Ok value) = next value
result_and_then {T} {U} {E} next (Err refusal) = Err refusal

abbrev pub result_map : {T U E : Type 0} → (T → U) → Result T E → Result U E
result_map {T} {U} {E} f (Ok value) = Ok (f value)
result_map {T} {U} {E} f (Err refusal) = Err refusal

-- what was said before what is said later, of which the state at the end is kept
abbrev pub said_before : {S : Type 0} → List Event → Said S → Said S
said_before {S} said later = result_map (λ rest. (said ++ rest.0, rest.1)) later

-- what parts say one after the other, and the state at the end, or the refusal of the first that is refused
abbrev pub all_say : {S P : Type 0} → (S → P → Said S) → S → List P → Said S
all_say {S} {P} says state [] = Ok ([], state)
all_say {S} {P} says state (part ∷ rest) =
    result_and_then (λ said. said_before said.0 (all_say says said.1 rest)) (says state part)

-- events, and what is said later
abbrev pub then_later : List Event → Result (List Event) Refusal → Result (List Event) Refusal
then_later said later = result_map (λ more. said ++ more) later

-- what parts say one after the other and then at the end, or the first refusal
abbrev pub say_to_end : {S P : Type 0} → (S → P → Said S) → (S → Result (List Event) Refusal) → S → List P
    → Result (List Event) Refusal
say_to_end {S} {P} says ends state [] = ends state
say_to_end {S} {P} says ends state (part ∷ rest) =
    result_and_then (λ said. then_later said.0 (say_to_end says ends said.1 rest)) (says state part)

-- a time before the last one, if there is one
abbrev pub is_before : ℕ → Option ℕ → Bool
is_before time None = false
is_before time (Some last) = nat_lt time last

-- it was said: these events were added, and this is the state then
abbrev pub Adds : {S : Type 0} → Said S → List Event → List Event → S → Type 0
Adds {S} (Err refusal) old new state = ⊥
Adds {S} (Ok said) old new state = (new ≡ old ++ said.0) × (state ≡ said.1)

-- where no state is kept
abbrev pub AddsAll : Result (List Event) Refusal → List Event → List Event → Type 0
AddsAll (Err refusal) old new = ⊥
AddsAll (Ok said) old new = new ≡ old ++ said

-- it was refused, and for this reason, unless memory ran out
abbrev pub IsRefusedBy : {T : Type 0} → Result T Refusal → Refusal → Type 0
IsRefusedBy {T} said refusal = refusal ≢ NoMemory → said ≡ Err refusal

-- there is no other reason, unless memory ran out
abbrev pub IsOnly : Refusal → Refusal → Type 0
IsOnly reason refusal = refusal ≢ NoMemory → refusal ≡ reason
