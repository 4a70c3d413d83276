use Rattle.std.proofs.Common.{◌≡◌, ℕ, Bool, List, Option, Some, None, Result, Ok, Err, subst}
use Rattle.std.specs.Prelude.{IfSome}
use Rattle.xb_check.specs.declared.fault.CheckFault.{CheckFault}
use Rattle.xb_check.specs.declared.fault.CheckFault.TheVariants as fault
use Rattle.xb_check.specs.Reports.{Delivers}
use Rattle.xb_check.proofs.checking.check.Goals as goal

-- what is delivered of the bytes that a reader gave, as far as its bytes are known
of-reader : (name : List ℕ) (all : Bool) (bytes : List ℕ) (deck : Option (List ℕ)) (result : Result (Unit {0}) CheckFault)
    (old new : Option (List ℕ)) → IfSome deck (λ known. bytes ≡ known) → Delivers name all (Some bytes) result old new
    → Delivers name all deck result old new
of-reader name all bytes (Some known) result old new is d = subst (λ b. Delivers name all (Some b) result old new) is d
of-reader name all bytes None (Ok u) old new is d = tt
of-reader name all bytes None (Err (fault.Refused f)) old new is d = tt
of-reader name all bytes None (Err fault.TooMany) old new is d = tt
of-reader name all bytes None (Err fault.Write) old new is d = tt
of-reader name all bytes None (Err fault.TooLong) old new is d = (d.0, tt)
of-reader name all bytes None (Err fault.Read) old new is d = d
of-reader name all bytes None (Err fault.NoMemory) old new is d = d

pub returns : goal.returns
returns g c =
    of-reader c.args.name.now c.args.all c.in-Ok.bytes.items (g.R.Read.remaining c.args.deck.now) c.tell.result
    (g.W.Write.contents c.args.out.now) (g.W.Write.contents c.tell.new.out) c.in-Ok.ensures.whole
    (subst (λ b. Delivers c.args.name.now c.args.all (Some b) c.tell.result (g.W.Write.contents c.args.out.now)
    (g.W.Write.contents c.tell.new.out)) c.deref.ensures.value c.tell.ensures)
