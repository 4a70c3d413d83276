-- A row that is refused after what was said before it.
use Rattle.std.proofs.Common.{◌≡◌, List, ap, sym, ◌∙◌}
use Rattle.std.specs.Prelude.{Ok, Err}
use Rattle.xb_contact.specs.declared.event.Event.{Event}
use Rattle.xb_contact.specs.declared.event.Refusal.{Refusal}
use Rattle.xb_contact.specs.Steps.{Adds, Said, result_and_then, said_before}
use Rattle.xb_csv.specs.Tables.{TableState}

pub then_refused :
    (next : TableState → Said TableState) (first : Said TableState) (old mid : List Event) (now : TableState)
    (refusal : Refusal) → Adds first old mid now → next now ≡ Err refusal
    → result_and_then (λ said. said_before said.0 (next said.1)) first ≡ Err refusal
then_refused next (Err own) old mid now refusal h e = elim h [ ]
then_refused next (Ok said) old mid now refusal h e =
    ap (λ s. said_before said.0 (next s)) (sym h.1) ∙ ap (said_before said.0) e
