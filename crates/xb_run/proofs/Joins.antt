-- What a post gives back that was started.
use Rattle.std.proofs.Common.{◌≡◌, IfOk, IfErr, Result, Ok, Err, sym, subst}
use Rattle.std.specs.declared.thread.PromisedHandle.{PromisedHandle}
use Rattle.xb_run.specs.Started.{IsStarted}
use Rattle.xb_run.specs.declared.start.Promised.{Promised}

-- is what its thread promised, or what it gave back at once
pub joined : {P D : Type 0} (keeps : P → D → Type 0) (post : P) (started : Result (PromisedHandle D (Promised P D)) D) (done : D)
    → IfOk started (λ handle. keeps handle.promise.made.value done) → IfErr started (λ back. done ≡ back) → IsStarted keeps post started → keeps post done
joined keeps post (Ok handle) done kept stopped is = subst (λ made. keeps made done) is kept
joined keeps post (Err back) done kept stopped is = subst (keeps post) (sym stopped) is
