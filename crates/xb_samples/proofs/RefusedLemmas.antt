-- What a step returns that may be refused.
use Rattle.std.proofs.Common.{◌≡◌, ℕ, ◌+◌, ◌<◌, ◌≤◌, sym, subst, arith}
use Rattle.std.specs.Prelude.{◌≢◌, Err, Ok, Result}
use Rattle.std.specs.Result.{IfErr, IsErrAnd, OnOk}
use Rattle.xb_contact.specs.declared.event.Refusal.{Refusal}
use Rattle.xb_contact.specs.declared.event.Refusal.TheVariants.{NoMemory}
use Rattle.xb_samples.specs.Pieces.{RunsOver}

-- where one more tick cannot be counted, nor can all of them
pub over_later :
    (first now i n : ℕ) (refusal : Refusal) → now ≤ first + i → i < n → RunsOver now 1 refusal → RunsOver first n refusal
over_later first now i n refusal most inside over = λ other. omega (arith, over other)

-- the exit of a `?`, which hands on a refusal
pub refused_with :
    {T : Type 0} (result : Result T Refusal) (refusal : Refusal) (P : Refusal → Type 0)
    → IsErrAnd result (λ own. own ≡ refusal) → P refusal → IfErr result P
refused_with (Ok value) refusal P is p = tt
refused_with (Err own) refusal P is p = subst P (sym is) p

-- what holds however a step ends
pub ok_anyway : {T E P : Type 0} (result : Result T E) → P → OnOk result P
ok_anyway (Ok value) p = p
ok_anyway (Err own) p = tt

-- where only memory can run out, nothing is promised of any other refusal
pub out_of_memory :
    {T : Type 0} (result : Result T Refusal) (P : Refusal → Type 0) → IfErr result (λ own. own ≡ NoMemory)
    → IfErr result (λ own. own ≢ NoMemory → P own)
out_of_memory (Ok value) P is = tt
out_of_memory (Err own) P is = λ other. absurd (other is)
